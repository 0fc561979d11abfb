-- Tests that hold together or one by one; numbers between bounds, or on one side of them.
use Prim.Native.Nat.{ℕ, ◌≤◌, ◌<◌}
use mathlib.Core.Path.{◌≡◌, refl, sym, ◌∙◌}
use mathlib.Core.Bool.{Bool, true, false, ◌&&◌, ◌||◌, true≢false}
use borrow.Author.Tests.{leb-true, leb-false, le-leb, lt-leb}
use borrow.Table.Steps.{cases}
use lib.Dec.{leb}
use Rattle.json_rule.specs.Lexemes.{within}

pub both : (a b : Bool) → a && b ≡ true → (a ≡ true) × (b ≡ true)
both true true e = (refl, refl)
both true false e = absurd (true≢false (sym e))
both false b e = absurd (true≢false (sym e))

pub either_left : (a : Bool) → a || false ≡ true → a ≡ true
either_left true e = refl
either_left false e = e

module _ (least most b : ℕ) where
  pub inside : least ≤ b → b ≤ most → within least most b ≡ true
  inside h g = rw (le-leb least b h, le-leb b most g)

  pub below : b < least → within least most b ≡ false
  below h = rw (lt-leb least b h)

  pub above : most < b → within least most b ≡ false
  above h = cases (leb least b) (λ t. rw (t, lt-leb b most h)) (λ f. rw f)

  pub from_least : within least most b ≡ true → least ≤ b
  from_least e = leb-true least b (both (leb least b) (leb b most) e).0

  pub to_most : within least most b ≡ true → b ≤ most
  to_most e = leb-true b most (both (leb least b) (leb b most) e).1

  -- one that is not between them, but not below, is above
  pub past : within least most b ≡ false → least ≤ b → most < b
  past e h = cases (leb b most) (λ t. absurd (true≢false (sym (rw (le-leb least b h, t)) ∙ e))) (λ f. leb-false b most f)
