-- One more refusal makes the sooner of the two, and of a test that fails the refusal is the defect.
use Prim.Native.Nat.{ℕ}
use native.Mathlib.Omega.{arith}
use mathlib.Core.Path.{◌≡◌, refl, sym}
use mathlib.Core.Bool.{Bool, true, false, cond}
use mathlib.Core.Option.{some}
use lib.Dec.{eqb, ltb}
use borrow.Table.Steps.{cases}
use borrow.Author.Tests.{eqb-true, eqb-false, eq-eqb, le-ltb}
use Rattle.json_rule.specs.Defects.{unless, least, is_sooner}
use Rattle.json_judge.specs.Refusal.{sooner}
use Rattle.file_walk.specs.Seats.{refusal_of, said_by, is_before, refused}
use Rattle.file_walk.specs.declared.seat.Seat.{Seat}

pub said_unless : (b : Bool) (place number : ℕ) → eqb number 0 ≡ false → least (unless b place number) ≡ refusal_of (cond b 0 number) place
said_unless true place number h = refl
said_unless false place number h = rw h

said_numbers : (number place n p : ℕ) (before : Bool) → eqb number 0 ≡ false → eqb n 0 ≡ false → is_sooner (record { place = place; number = number }) (record { place = p; number = n }) ≡ before
    → refusal_of (cond before number n) (cond before place p) ≡ cond (is_sooner (record { place = place; number = number }) (record { place = p; number = n })) (some (record { place = place; number = number })) (some (record { place = p; number = n }))
said_numbers number place n p true h g e = rw (h, e)
said_numbers number place n p false h g e = rw (g, e)

same_test : (number place n p : ℕ) → is_sooner (record { place = place; number = number }) (record { place = p; number = n }) ≡ cond (eqb p place) (ltb number n) (ltb place p)
same_test number place n p =
    cases (eqb p place)
    (λ e. rw (e, le-ltb place p (omega (arith, eqb-true p place e)), eq-eqb place p (sym (eqb-true p place e))))
    (λ e. rw e (cases (eqb place p)
    (λ f. absurd (eqb-false p place e (sym (eqb-true place p f))))
    (λ f. rw f (cases (ltb place p) (λ g. rw g) (λ g. rw g)))))

pub said_refused : (number place : ℕ) (s : Seat) → said_by (refused number place s) ≡ sooner (said_by s) (refusal_of number place)
unfolding is_before
said_refused number place s =
    cases (eqb number 0)
    (λ h. rw h)
    (λ h. cases (eqb s.number 0)
    (λ g. rw (h, g, h))
    (λ g. rw (h, g) (said_numbers number place s.number s.place (cond (eqb s.place place) (ltb number s.number) (ltb place s.place)) h g (same_test number place s.number s.place))))
