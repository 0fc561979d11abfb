-- A log with one entry more, and the three facts that are read from it.
use Prim.Native.Nat.{ℕ, ◌+◌, ◌<◌}
use native.Mathlib.Omega.{arith}
use mathlib.Core.Path.{◌≡◌, refl, sym, ap, ◌∙◌}
use mathlib.Core.Bool.{Bool, true, false, ◌||◌}
use mathlib.Core.List.{List, [], ◌∷◌, ◌++◌, map, map-append}
use lib.IntN.{ℤ, pos}
use lib.ListN.{length, set, length-append, length-map}
use Rattle.records.specs.Blanks.{no_update}
use Rattle.records.specs.declared.update.TableUpdate.{TableUpdate}
use Rattle.rules.specs.Words.{any, collect, eq_z}
use Rattle.rules.specs.Names.{is_main}
use Rattle.rules.specs.Register.{Snapshot, Reference, Update}
use Rattle.rules.specs.Register.Update.{AddSnapshot, RemoveSnapshots, SetRef}
use Rattle.rules.specs.ChangeLog.{addition, logs_addition, main_target, logs_main, is_snapshot_removal, logs_removal}
use Rattle.rules.specs.Layout.{pad}
use Rattle.rules.specs.Kinds.{laid_update}
use Rattle.rules.proofs.Replay.Lists.{any_append, any_collect}
use Rattle.close.specs.Facts.{additions}
use Rattle.refinement.specs.Standing.{Changes, entered, with_addition, with_main, with_removal, Logs}
use Rattle.refinement.proofs.Slots.{pad_push, collect_length, collect_none, collect_some}
use Rattle.refinement.proofs.Effects.{Quiet}

or_false : (b : Bool) → (b || false) ≡ b
or_false true = refl
or_false false = refl

or_true : (b : Bool) → (b || true) ≡ true
or_true true = refl
or_true false = refl

-- an array of signed numbers, or of entries, with one more
pub one_more_lem : {A : Type 0} (z : A) (l l' : List A) (x : A) {xs : List A} {n : ℕ} → xs ≡ pad 64 z l → n ≡ length l → length l < 64 → l' ≡ l ++ (x ∷ []) → set xs n x ≡ pad 64 z l'
one_more_lem z l l' x {xs} {n} e k h q = rw (e, k, q) (pad_push z 64 l x h)

counted : {A : Type 0} (l l' : List A) (x : A) {n : ℕ} → n ≡ length l → l' ≡ l ++ (x ∷ []) → n + 1 ≡ length l'
counted l l' x k q = rw (k, q) (sym (length-append l (x ∷ [])))

module _ {l : List Update} {c : Changes} (g : Logs l c) (h : length l < 64) where
  entry_more : (u : Update) {e : TableUpdate} → e ≡ laid_update u → set c.entries c.count e ≡ pad 64 no_update (map laid_update (l ++ (u ∷ [])))
  entry_more u {e} q =
      let n : c.count ≡ length (map laid_update l) = g.count ∙ sym (length-map l laid_update) in
      rw q (one_more_lem no_update (map laid_update l) (map laid_update (l ++ (u ∷ []))) (laid_update u) g.entries n (omega (arith, length-map l laid_update)) (map-append laid_update l (u ∷ [])))

  count_more : (u : Update) → c.count + 1 ≡ length (l ++ (u ∷ []))
  count_more u = counted l (l ++ (u ∷ [])) u g.count refl

  pub push_quiet : (u : Update) {e : TableUpdate} → e ≡ laid_update u → Quiet u → Logs (l ++ (u ∷ [])) (entered e c)
  unfolding additions logs_main logs_removal
  push_quiet u q s =
      record {
        entries = entry_more u q;
        count = count_more u;
        added = g.added ∙ ap (λ (x : List ℤ). pad 64 (pos 0) x) (sym (collect_none addition l u s.adds));
        adds = g.adds ∙ ap length (sym (collect_none addition l u s.adds));
        main_targets = g.main_targets ∙ ap (λ (x : List ℤ). pad 64 (pos 0) x) (sym (collect_none main_target l u s.sets));
        mains = g.mains ∙ ap length (sym (collect_none main_target l u s.sets));
        removal = g.removal ∙ sym (any_append is_snapshot_removal l (u ∷ []) ∙ rw s.removes (or_false (any is_snapshot_removal l)));
      }

  pub push_addition : (s : Snapshot) {e : TableUpdate} → e ≡ laid_update (AddSnapshot s) → Logs (l ++ (AddSnapshot s ∷ [])) (entered e (with_addition s.id c))
  unfolding additions logs_main logs_removal
  push_addition s q =
      let u : Update = AddSnapshot s in
      let n : collect addition (l ++ (u ∷ [])) ≡ collect addition l ++ (s.id ∷ []) = collect_some addition l u s.id refl in
      record {
        entries = entry_more u q;
        count = count_more u;
        added = one_more_lem (pos 0) (collect addition l) (collect addition (l ++ (u ∷ []))) s.id g.added g.adds (omega (arith, collect_length addition l)) n;
        adds = counted (collect addition l) (collect addition (l ++ (u ∷ []))) s.id g.adds n;
        main_targets = g.main_targets ∙ ap (λ (x : List ℤ). pad 64 (pos 0) x) (sym (collect_none main_target l u refl));
        mains = g.mains ∙ ap length (sym (collect_none main_target l u refl));
        removal = g.removal ∙ sym (any_append is_snapshot_removal l (u ∷ []) ∙ or_false (any is_snapshot_removal l));
      }

  pub push_removal : (ids : List ℤ) {e : TableUpdate} → e ≡ laid_update (RemoveSnapshots ids) → Logs (l ++ (RemoveSnapshots ids ∷ [])) (entered e (with_removal true c))
  unfolding additions logs_main logs_removal
  push_removal ids q =
      let u : Update = RemoveSnapshots ids in
      record {
        entries = entry_more u q;
        count = count_more u;
        added = g.added ∙ ap (λ (x : List ℤ). pad 64 (pos 0) x) (sym (collect_none addition l u refl));
        adds = g.adds ∙ ap length (sym (collect_none addition l u refl));
        main_targets = g.main_targets ∙ ap (λ (x : List ℤ). pad 64 (pos 0) x) (sym (collect_none main_target l u refl));
        mains = g.mains ∙ ap length (sym (collect_none main_target l u refl));
        removal = or_true c.removal ∙ sym (any_append is_snapshot_removal l (u ∷ []) ∙ or_true (any is_snapshot_removal l));
      }

  pub push_main : (name : List ℕ) (r : Reference) {e : TableUpdate} → e ≡ laid_update (SetRef name r) → is_main name ≡ true → Logs (l ++ (SetRef name r ∷ [])) (entered e (with_main r.snapshot c))
  unfolding additions logs_main logs_removal
  push_main name r q m =
      let u : Update = SetRef name r in
      let n : collect main_target (l ++ (u ∷ [])) ≡ collect main_target l ++ (r.snapshot ∷ []) = collect_some main_target l u r.snapshot (rw m) in
      record {
        entries = entry_more u q;
        count = count_more u;
        added = g.added ∙ ap (λ (x : List ℤ). pad 64 (pos 0) x) (sym (collect_none addition l u refl));
        adds = g.adds ∙ ap length (sym (collect_none addition l u refl));
        main_targets = one_more_lem (pos 0) (collect main_target l) (collect main_target (l ++ (u ∷ []))) r.snapshot g.main_targets g.mains (omega (arith, collect_length main_target l)) n;
        mains = counted (collect main_target l) (collect main_target (l ++ (u ∷ []))) r.snapshot g.mains n;
        removal = g.removal ∙ sym (any_append is_snapshot_removal l (u ∷ []) ∙ or_false (any is_snapshot_removal l));
      }

-- ---- the snapshots that a log adds

pub logs_addition_lem : (id : ℤ) (l : List Update) → any (λ x. eq_z x id) (additions l) ≡ logs_addition l id
unfolding additions logs_addition
logs_addition_lem id l = sym (any_collect (λ x. eq_z x id) addition l)
