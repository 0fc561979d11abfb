-- It takes the place of the first file that is not below it, if that is of its snapshot, and else goes before it.
use Rattle.std.proofs.Common.{[], pos, get_or, not, refl, sym, ap, ◌∙◌, arith}
use lib.Signed.{lt_z}
use Rattle.records.specs.declared.statistics.StatisticsFile.{StatisticsFile}
use Rattle.rules.specs.Words.{eq_z}
use Rattle.rules.specs.Layout.{read_statistics_file, laid_statistics}
use Rattle.rules.proofs.Orders.{numbers_ordered, numbers_told}
use Rattle.tables.proofs.Table.{long}
use Rattle.tables.proofs.Search.{place_within}
use Rattle.tables.proofs.Push.{replaced}
use Rattle.tables.proofs.Put.{Vacant, put_vacant, put_room, put_replaced}
use Rattle.tables.proofs.Spans.{told, run_place, inserted_laid}
use Rattle.tables.proofs.Each.{statistics, tidy_statistics, made_statistics}
use Rattle.tables.proofs.statistics.put.Goals as goal
use Rattle.tables.proofs.statistics.put.Goals.{else-at-t-via-then-at-t+else-eq, else-at-t-via-else-at-t}

-- what stands past the table's slots
abbrev past : StatisticsFile
past = record { snapshot_id = record { 0 = pos 0 }; statistics_path = record { bytes = []; len = 0 }; file_size_in_bytes = record { 0 = pos 0 } }

pub returns-then-eq : goal.returns-then-eq
returns-then-eq c =
    let p = c.requires in
    let h = tidy_statistics p.laid_statistics in
    let at = run_place h (λ x. not (lt_z x.snapshot c.args.x.snapshot_id.0)) (rw c.snapshot_key.ensures at c.place_of-at.ensures) in
    replaced made_statistics h c.place_of-at.result c.args.x c.if-at-t.true p.laid_statistics_file.back refl refl
    ∙ ap laid_statistics (put_replaced h numbers_ordered numbers_told (λ x. x.snapshot) (read_statistics_file c.args.x) at past c.if-at-t.true (sym (told (get_or c.args.t.items c.place_of-at.result past).snapshot_id.0 c.args.x.snapshot_id.0 c.eq.ensures) ∙ c.if-eq.true))

pub insert-requires-clause-place : goal.insert-requires-clause-place
insert-requires-clause-place c =
    let h = tidy_statistics c.requires.laid_statistics in
    place_within h (λ x. not (lt_z x.snapshot c.args.x.snapshot_id.0)) (run_place h (λ x. not (lt_z x.snapshot c.args.x.snapshot_id.0)) (rw c.snapshot_key.ensures at c.place_of-at.ensures))

pub insert-requires-clause-room : goal.insert-requires-clause-room
insert-requires-clause-room c =
    let p = c.requires in
    let h = tidy_statistics p.laid_statistics in
    let at = run_place h (λ x. not (lt_z x.snapshot c.args.x.snapshot_id.0)) (rw c.snapshot_key.ensures at c.place_of-at.ensures) in
    let vacant : Vacant statistics eq_z (λ x. x.snapshot) (read_statistics_file c.args.x) c.args.t c.place_of-at.result =
    elim c.else-at-t.branch [
      | else-at-t-via-then-at-t+else-eq w ↦ record { past = past; free = λ b. sym (told (get_or c.args.t.items c.place_of-at.result past).snapshot_id.0 c.args.x.snapshot_id.0 w.eq.ensures) ∙ w.if-eq.false }
      | else-at-t-via-else-at-t w ↦ record { past = c.args.x; free = λ b. absurd (omega (arith, w.if-at-t.false)) }
    ] in
    omega (arith, put_room h numbers_ordered numbers_told (λ x. x.snapshot) (read_statistics_file c.args.x) at vacant p.t_value p.count_bound, long h)

pub returns : goal.returns
returns c =
    let p = c.requires in
    let h = tidy_statistics p.laid_statistics in
    let x = read_statistics_file c.args.x in
    let at = run_place h (λ x. not (lt_z x.snapshot c.args.x.snapshot_id.0)) (rw c.snapshot_key.ensures at c.place_of-at.ensures) in
    let vacant : Vacant statistics eq_z (λ x. x.snapshot) (read_statistics_file c.args.x) c.args.t c.place_of-at.result =
    elim c.else-at-t.branch [
      | else-at-t-via-then-at-t+else-eq w ↦ record { past = past; free = λ b. sym (told (get_or c.args.t.items c.place_of-at.result past).snapshot_id.0 c.args.x.snapshot_id.0 w.eq.ensures) ∙ w.if-eq.false }
      | else-at-t-via-else-at-t w ↦ record { past = c.args.x; free = λ b. absurd (omega (arith, w.if-at-t.false)) }
    ] in
    inserted_laid made_statistics h p.laid_statistics_file.back (place_within h (λ x. not (lt_z x.snapshot c.args.x.snapshot_id.0)) at)
    (put_room h numbers_ordered numbers_told (λ x. x.snapshot) x at vacant p.t_value p.count_bound) c.insert.ensures refl
    ∙ ap laid_statistics (put_vacant h numbers_ordered numbers_told (λ x. x.snapshot) x at vacant)
