-- The close reads the log only through what it adds, to what it sets `main` and whether it removes snapshots, so it answers alike to a stripped log.
use Prim.Native.Nat.{ℕ}
use mathlib.Core.Path.{◌≡◌, refl}
use mathlib.Core.Bool.{Bool, true, false, cond}
use mathlib.Core.List.{List, []}
use mathlib.Core.Option.{Option}
use lib.IntN.{ℤ}
use Rattle.rules.specs.Register.{FileEntry, Metadata, Update, Terms, State}
use Rattle.rules.specs.Register.Outcome.{Accepted}
use Rattle.rules.specs.Close.{intermediates, rebuilt, history, ends_elsewhere, close_checks, closed}
use Rattle.rules.specs.Others.{is_second}
use Rattle.rules.specs.Run.{close, closing_log}
use Rattle.rules.specs.Replay.{strip}
use Rattle.rules.proofs.Sound.Accepted.{Closes}
use Rattle.rules.proofs.Replay.Log.{strip_additions, strip_mains, strip_removals}
use Rattle.rules.proofs.Replay.Steps.{with_log}

intermediates_alike : (log : List Update) (current : Option ℤ) → intermediates (strip log) current ≡ intermediates log current
unfolding intermediates
intermediates_alike log current = simp (strip_additions, strip_mains)

rebuilt_alike : (log : List Update) (m : Metadata) → rebuilt (strip log) m ≡ rebuilt log m
unfolding rebuilt
rebuilt_alike log m = rw (strip_removals log, intermediates_alike log m.fields.current)

history_alike : (log : List Update) (m : Metadata) → history (strip log) m ≡ history log m
history_alike log m = rw (strip_removals log, intermediates_alike log m.fields.current, rebuilt_alike log m)

-- only 21 reads the log
checks_alike : (terms : Terms) (log : List Update) (m : Metadata) → close_checks terms (strip log) m ≡ close_checks terms log m
unfolding close_checks ends_elsewhere
checks_alike terms log m = rw (strip_removals log, intermediates_alike log m.fields.current, rebuilt_alike log m)

closed_alike : (terms : Terms) (log l : List Update) (st : State) → closed terms (strip log) (with_log l st) ≡ closed terms log st
unfolding closed
closed_alike terms log l st = rw (history_alike log st.metadata)

-- the log that a close reads, of a run of either office
closing_alike : (terms : Terms) (st : State) → closing_log terms (with_log (strip st.log) st) ≡ strip (closing_log terms st)
unfolding strip
closing_alike terms st = go (is_second terms.office)
  where
    go : (t : Bool) → cond t [] (strip st.log) ≡ strip (cond t [] st.log)
    go true = refl
    go false = refl

-- the same close with the log stripped, at any place
pub close_alike : (terms : Terms) (m : Metadata) (log : List Update) (gone : List FileEntry) (place : ℕ) (st : State) → Closes terms m log gone st → close terms place (closing_log terms (with_log (strip st.log) st)) (with_log (strip st.log) st) ≡ Accepted m (strip log) gone
unfolding close
close_alike terms m log gone place st c =
    rw (closing_alike terms st, checks_alike terms (closing_log terms st) st.metadata, c.passes, closed_alike terms (closing_log terms st) (strip st.log) st, c.metadata, c.logged, c.expired)
