-- One update more: where it is accepted the pieces are those of the next state, where it is refused the answer is known.
use Prim.Native.Nat.{ℕ, suc, ◌+◌, ◌≤◌, ◌<◌}
use native.Mathlib.Omega.{arith}
use native.Mathlib.Numerals.{add-one}
use mathlib.Core.Path.{◌≡◌, sym, ap, ◌∙◌}
use mathlib.Core.Bool.{Bool, true, false, cond}
use mathlib.Core.List.{◌∷◌}
use lib.ListN.{length, drop}
use borrow.Author.Tests.{eq-eqb, ne_eqb, ltb-true, ltb-false}
use borrow.Table.Steps.{cases}
use lib.Dec.{ltb}
use Rattle.rules.specs.Words.{total, first_of}
use Rattle.rules.specs.Register.{Update}
use Rattle.rules.specs.WellFormed.{update_formed}
use Rattle.rules.specs.Replies.{update_not_formed, others_to_change}
use Rattle.rules.specs.Others.{is_others}
use Rattle.rules.specs.Updates.{offers_formed, offer_checks, update_number, effect}
use Rattle.rules.specs.Run.{weight, run_from, started, close, closing_log}
use Rattle.rules.specs.Run.Ran.{Stopped}
use Rattle.rules.specs.Layout.{read_metadata}
use Rattle.rules.specs.Kinds.{read_updates}
use Rattle.rules.specs.Answer.{laid_outcome}
use Rattle.rules.proofs.Sound.Updates.{effect_sound}
use Rattle.rules.proofs.Offices.Alone.{shared_stays}
use Rattle.start.proofs.Started.{started_answer}
use Rattle.start.proofs.Reading.{all_read, read_length}
use Rattle.refinement.specs.Standing.{Given, answer_of, terms_of, Pieces, Tables, Logs, Passes, Standing}
use Rattle.refinement.specs.Turns.{RefusedWith}
use Rattle.refinement.proofs.Effects.{Moves, moves}

-- there is an update at the place
pub listed : (g : Given) (i : ℕ) {v : Update} → drop i (read_updates g.updates) ≡ v ∷ drop (i + 1) (read_updates g.updates) → i < g.updates.count
listed g i at = cases (ltb i g.updates.count) (λ t. ltb-true i g.updates.count t) (λ f. absurd (let z : ◌≡◌ {A = ℕ} 0 (suc (length (drop (i + 1) (read_updates g.updates)))) = ap length (sym (all_read g.updates i (ltb-false i g.updates.count f)) ∙ at) in omega arith))

module _ {g : Given} {i : ℕ} {p : Pieces} (S : Standing g i p) (v : Update) (at : drop i (read_updates g.updates) ≡ v ∷ drop (i + 1) (read_updates g.updates)) where
  -- its entries have room
  pub fits : length S.state.log + weight v ≤ 64
  fits = let q : total weight (drop i (read_updates g.updates)) ≡ weight v + total weight (drop (i + 1) (read_updates g.updates)) = ap (total weight) at in omega (arith, S.left)

  pub next : update_number (terms_of g) v S.state ≡ 0 → {q : Pieces} → Tables (effect (terms_of g) v S.state) q.held → Logs (effect (terms_of g) v S.state).log q.changes → Standing g (i + 1) q
  unfolding run_from
  next n T L =
      let M : Moves (weight v) S.state (effect (terms_of g) v S.state) = moves (terms_of g) v S.state in
      let q : total weight (drop i (read_updates g.updates)) ≡ weight v + total weight (drop (i + 1) (read_updates g.updates)) = ap (total weight) at in
      let K = S.stands.since in
      record {
        starts = S.starts;
        state = effect (terms_of g) v S.state;
        reached = S.reached ∙ rw (at, eq-eqb (update_number (terms_of g) v S.state) 0 n, add-one i);
        left = omega (arith, S.left, M.light);
        stands = record {
          sound = effect_sound (terms_of g) v S.state S.starts.known n S.stands.sound;
          since = record { files = M.files ∙ K.files; old = M.old ∙ K.old; back = K.back; short = K.short; shared = shared_stays (terms_of g) v S.state S.stands.sound n ∙ K.shared };
          tables = T;
          logs = L;
          room = omega (arith, S.left, M.light);
        };
      }

  stops : {n : ℕ} → update_number (terms_of g) v S.state ≡ n → (n ≡ 0 → ⊥) → run_from (terms_of g) (read_updates g.updates) 0 (started (read_metadata g.metadata)) ≡ Stopped n i
  unfolding run_from
  stops {n} e z = S.reached ∙ rw (at, e, ne_eqb n 0 z)

  refusal : {n : ℕ} → update_number (terms_of g) v S.state ≡ n → (n ≡ 0 → ⊥) → RefusedWith g n i
  refusal e z = sym (started_answer g.metadata g.updates g.terms g.lent S.starts ∙ rw (stops e z))

  -- 3
  pub not_formed_refused : update_formed v ≡ false → RefusedWith g 3 i
  unfolding update_number
  not_formed_refused e = refusal (rw e) (λ (y : 3 ≡ 0). omega arith)

  -- 35, or 3 where what it offers is not well formed
  pub others_refused : update_formed v ≡ true → is_others g.terms.office v S.state.metadata ≡ true → {fits : Bool} → fits ≡ offers_formed (terms_of g) v → RefusedWith g (cond fits others_to_change update_not_formed) i
  unfolding update_number
  others_refused e o {fits} f =
      cases fits
      (λ t. rw t (refusal (rw (e, sym f ∙ t, o)) (λ (y : 35 ≡ 0). omega arith)))
      (λ n. rw n (refusal (rw (e, sym f ∙ n)) (λ (y : 3 ≡ 0). omega arith)))

  module _ (e : Passes g.terms.office v S.state) {n : ℕ} (w : n ≡ first_of (offer_checks (terms_of g) v S.state)) where
    -- a check of the update fails
    pub check_refused : (n ≡ 0 → ⊥) → RefusedWith g n i
    unfolding update_number
    check_refused y = refusal (rw (e.formed, e.own) (sym w)) y

    pub accepted : n ≡ 0 → update_number (terms_of g) v S.state ≡ 0
    unfolding update_number
    accepted y = rw (e.formed, e.own) (sym w ∙ y)

-- ---- the end of the list

pub ends : {g : Given} {i : ℕ} {p : Pieces} (S : Standing g i p) → g.updates.count ≤ i → laid_outcome g.metadata (close (terms_of g) g.updates.count (closing_log (terms_of g) S.state) S.state) ≡ answer_of g
unfolding run_from
ends {g} {i} S q = sym (started_answer g.metadata g.updates g.terms g.lent S.starts ∙ rw (S.reached, all_read g.updates i q, read_length g.updates))
