-- The run as it was before there were two offices: Run without 35 and 39, and with a close that always reads the run's own log.
-- Nothing is run by these definitions: `one_office_as_before` says that with one office the run is what it was.
use Rattle.std.specs.Prelude.{ℕ, suc, cond, not, List, [], ◌∷◌, eqb, leb, length}
use Rattle.rules.specs.Words.{first_of, Check}
use Rattle.rules.specs.Replies.{accepted, start_not_formed, list_too_long, update_not_formed, tolerance_outside}
use Rattle.rules.specs.Capacities.{list_room}
use Rattle.rules.specs.Window.{is_outside}
use Rattle.rules.specs.Register.{Metadata, Update, Terms, State, Outcome}
use Rattle.rules.specs.Register.Outcome.{Refused}
use Rattle.rules.specs.WellFormed.{update_formed}
use Rattle.rules.specs.Updates.{offer_checks, effect}
use Rattle.rules.specs.Run.{Ran, list_sum, started, close, start_formed}
use Rattle.rules.specs.Run.Ran.{Stopped, Reached}

-- the form of an update, of what it offers, and its own checks
unfoldable pub number_alone : Terms → Update → State → ℕ
number_alone terms u st = first_of ((not (update_formed u), update_not_formed) ∷ offer_checks terms u st)

-- the updates in order
unfoldable pub run_from_alone : Terms → List Update → ℕ → State → Ran
run_from_alone terms [] place st = Reached st
run_from_alone terms (u ∷ us) place st =
    cond (eqb (number_alone terms u st) accepted)
    (run_from_alone terms us (suc place) (effect terms u st))
    (Stopped (number_alone terms u st) place)

-- the close by the run's own log
abbrev pub close_ran_alone : Terms → List Update → Ran → Outcome
close_ran_alone terms us (Stopped number at) = Refused number at
close_ran_alone terms us (Reached st) = close terms (length us) st.log st

unfoldable pub start_checks_alone : Terms → Metadata → List Update → List Check
start_checks_alone terms m us =
    (not (start_formed terms m), start_not_formed)
    ∷ (not (leb (list_sum us) list_room), list_too_long)
    ∷ (is_outside terms.tolerance, tolerance_outside)
    ∷ []

unfoldable pub run_alone : Terms → Metadata → List Update → Outcome
run_alone terms m us =
    cond (eqb (first_of (start_checks_alone terms m us)) accepted)
    (close_ran_alone terms us (run_from_alone terms us 0 (started m)))
    (Refused (first_of (start_checks_alone terms m us)) 0)
