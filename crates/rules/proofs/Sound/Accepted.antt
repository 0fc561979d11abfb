-- What it says that a run is accepted: it passes 1, 2, 26 and 39, its updates lead to a state, and the close passes its checks there.
use Prim.Native.Nat.{ℕ, ◌≤◌}
use native.Mathlib.Omega.{arith}
use mathlib.Core.Path.{◌≡◌, refl}
use mathlib.Core.Bool.{true, false}
use mathlib.Core.List.{List}
use lib.Dec.{eqb, leb}
use lib.ListN.{length}
use borrow.Author.Tests.{eqb-true, leb-true, le-leb, not-false}
use Rattle.rules.specs.Words.{first_of}
use Rattle.rules.specs.Replies.{accepted}
use Rattle.rules.specs.Capacities.{list_room}
use Rattle.rules.specs.Window.{is_outside}
use Rattle.rules.specs.Offices.{is_office}
use Rattle.rules.specs.Register.{FileEntry, Metadata, Update, Terms, State}
use Rattle.rules.specs.Register.Outcome.{Refused, Accepted}
use Rattle.rules.specs.Close.{expired, close_checks, closed}
use Rattle.rules.specs.Run.{list_sum, Ran, run_from, started, close, closing_log, close_ran, start_formed, start_checks, run}
use Rattle.rules.specs.Run.Ran.{Stopped, Reached}
use Rattle.rules.proofs.Checks.{only_then, Passed, passed}

-- a refusal is no acceptance
refused : (number place : ℕ) (m : Metadata) (log : List Update) (gone : List FileEntry) → Refused number place ≡ Accepted m log gone → ⊥
refused number place m log gone e = let z : ◌≡◌ {A = ℕ} 0 1 = cc in omega arith

module _ (terms : Terms) (m : Metadata) (log : List Update) (gone : List FileEntry) where
  -- the state closes with this metadata, log and expired entries
  pub record Closes (st : State) : Type 0 where
    pub passes : first_of (close_checks terms (closing_log terms st) st.metadata) ≡ 0
    pub metadata : closed terms (closing_log terms st) st ≡ m
    pub logged : st.log ≡ log
    pub expired : expired terms st.metadata ≡ gone

  pub close_accepted : (place : ℕ) (st : State) → close terms place (closing_log terms st) st ≡ Accepted m log gone → Closes st
  unfolding close
  close_accepted place st e =
      let number : ℕ = first_of (close_checks terms (closing_log terms st) st.metadata) in
      let k = only_then (eqb number accepted) (refused number place m log gone) e in
      record { passes = eqb-true number accepted k.0; metadata = cc; logged = cc; expired = cc }

  -- the run comes to a state that closes so
  pub record Ends (start : Metadata) (us : List Update) : Type 0 where
    pub formed : start_formed terms start ≡ true
    pub short : list_sum us ≤ list_room
    pub tolerated : is_outside terms.tolerance ≡ false
    pub office : is_office terms.office ≡ true
    pub end : State
    pub reached : run_from terms us 0 (started start) ≡ Reached end
    pub closes : Closes end

  pub run_accepted : (start : Metadata) (us : List Update) → run terms start us ≡ Accepted m log gone → Ends start us
  unfolding run start_checks
  run_accepted start us e =
      let number : ℕ = first_of (start_checks terms start us) in
      let k = only_then (eqb number accepted) (refused number 0 m log gone) e in
      from_end (passed (start_checks terms start us) refl (eqb-true number accepted k.0)) (run_from terms us 0 (started start)) refl k.1
    where
      from_end : Passed (start_checks terms start us) → (r : Ran) → run_from terms us 0 (started start) ≡ r → close_ran terms us r ≡ Accepted m log gone → Ends start us
      from_end p (Stopped number at) q e = absurd (refused number at m log gone e)
      from_end p (Reached st) q e = record {
        formed = not-false (start_formed terms start) p.0;
        short = leb-true (list_sum us) list_room (not-false (leb (list_sum us) list_room) p.1.0);
        tolerated = p.1.1.0;
        office = not-false (is_office terms.office) p.1.1.1.0;
        end = st;
        reached = q;
        closes = close_accepted (length us) st e;
      }

-- a run that passes 1, 2, 26 and 39 is its updates, and the close of where they lead
pub run_started : (terms : Terms) (start : Metadata) (us : List Update) → start_formed terms start ≡ true → list_sum us ≤ list_room → is_outside terms.tolerance ≡ false → is_office terms.office ≡ true
    → run terms start us ≡ close_ran terms us (run_from terms us 0 (started start))
unfolding run start_checks
run_started terms start us f s t o = rw (f, le-leb (list_sum us) list_room s, t, o)
