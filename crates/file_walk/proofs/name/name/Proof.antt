-- The name, and the colon.
use mathlib.Core.Path.{sym, ap, ◌∙◌}
use borrow.Author.Rules.{rules}
use native.Mathlib.Omega.{arith}
use borrow.Author.Tests.{not-true, not-false}
use Rattle.file_walk.specs.declared.seat.Seat.{Seat}
use Rattle.file_members.proofs.Judging.{member_kept}
use Rattle.file_walk.proofs.NameWalks.{no_name_lem, its_text, flag_of_lem, count_below, a_name_lem}
use Rattle.file_walk.proofs.name.name.Statement.{statement}
use Rattle.file_walk.proofs.name.name.Tie as tie

pub name_spec : {M : Type 1} → statement M
name_spec =
    tie.close
    (tie.spec
    (λ c κs. search rules)
    (λ c κs. search rules)
    (λ c κs. search rules)
    (λ c κs. search rules)
    (λ c. no_name_lem c.args.bytes.now c.args.version c.args.kind c.args.seat c.args.seen.now c.requires.1 c.next-t.result _ c.next-t.ensures c.stop.result (sym c.is_mark.ensures ∙ not-true _ c.if-not-is_mark.true-raw) (c.stop.ensures ∙ rw c.name_stop.ensures))
    (λ c κs. search rules)
    (λ c κs. search rules)
    (λ c κs. flag_of_lem c.args.bytes.now c.args.version c.args.kind c.args.seat c.args.seen.now c.requires.1 c.next-t.result _ c.next-t.ensures (sym c.is_mark.ensures ∙ not-false _ c.if-not-is_mark.false-raw) c.requires.0 c.first_of-first.result c.member-known.result c.first_of-first.ensures c.member-known.ensures)
    (λ c κs. search rules)
    (λ c κs. flag_of_lem c.args.bytes.now c.args.version c.args.kind c.args.seat c.args.seen.now c.requires.1 c.next-t.result _ c.next-t.ensures (sym c.is_mark.ensures ∙ not-false _ c.if-not-is_mark.false-raw) c.requires.0 c.first_of-first.result c.member-known.result c.first_of-first.ensures c.member-known.ensures)
    (λ c κs. search rules)
    (λ c κs. omega (arith, count_below c.args.bytes.now c.args.version c.args.kind c.args.seat c.args.seen.now c.requires.1 c.next-t.result _ c.next-t.ensures (sym c.is_mark.ensures ∙ not-false _ c.if-not-is_mark.false-raw) c.requires.0, ap (λ (y : Seat). y.count) c.judged-s.ensures))
    (λ c. a_name_lem c.args.bytes.now c.args.version c.args.kind c.args.seat c.args.seen.now c.requires.1 c.next-t.result _ c.next-t.ensures (sym c.is_mark.ensures ∙ not-false _ c.if-not-is_mark.false-raw) c.requires.0 c.next-c.result _ c.next-c.ensures c.member-known.result c.first_of-first.result c.was_seen.result c.judged-s.result _ c.after_colon.result (c.member-known.ensures ∙ member_kept c.args.version c.args.kind _ c.next-t.result.len _ (its_text c.args.bytes.now c.args.version c.args.kind c.args.seat c.args.seen.now c.requires.1 c.next-t.result _ c.next-t.ensures (sym c.is_mark.ensures ∙ not-false _ c.if-not-is_mark.false-raw) c.requires.0)) c.first_of-first.ensures c.was_seen.ensures c.judged-s.ensures c.mark.ensures c.after_colon.ensures))
