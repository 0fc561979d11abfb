-- It takes the place of the first ref that is not below it, if that has its name, and else goes before it. In the first case that ref is the one with its name,
-- and in the second there is none: so the owner is the rule's.
use Rattle.std.proofs.Common.{◌≡◌, ℕ, List, not, refl, sym, ap, ◌∙◌, arith}
use mathlib.Core.Option.{none, some}
use Rattle.records.specs.declared.part.RefsPart.{RefsPart}
use Rattle.records.specs.declared.reference.NamedRef.{NamedRef}
use Rattle.rules.specs.Words.{same_bytes, put}
use Rattle.rules.specs.Names.{name_below}
use Rattle.rules.specs.Register as plain
use Rattle.rules.specs.WellFormed.{ref_below}
use Rattle.rules.specs.RefUpdates.{has_name, ref_named, owner_after}
use Rattle.rules.specs.Layout.{read_name, read_ref, read_refs, laid_refs}
use Rattle.rules.proofs.Orders.{names_ordered, names_told_lem}
use Rattle.tables.specs.Laid.{owned_ref}
use Rattle.tables.proofs.Name.{same_names}
use Rattle.tables.proofs.Table.{long}
use Rattle.tables.proofs.Search.{place_within, first_none}
use Rattle.tables.proofs.Push.{replaced}
use Rattle.tables.proofs.Put.{Vacant, put_vacant, none_held, put_room, put_replaced, first_replaced}
use Rattle.tables.proofs.Spans.{inserted_laid}
use Rattle.tables.proofs.Each.{refs, tidy_refs, made_refs, part_ref, ref_at_lem, name_of}
use Rattle.tables.proofs.refs.put.Goals as goal
use Rattle.tables.proofs.refs.put.Goals.{else-at-t-via-then-at-t+else-same_name, else-at-t-via-else-at-t}

-- the ref of a part and an owner
abbrev owned : RefsPart → ℕ → NamedRef
owned x o = record { name = x.name; reference = x.reference; owner = o }

-- one with the owner that the rule gives it
by_rule : (office o : ℕ) (x : RefsPart) (l : List plain.NamedRef) → owner_after office (read_name x.name) l ≡ o → put ref_below (read_ref (owned x o)) l ≡ put ref_below (owned_ref office x l) l
by_rule office o x l e = rw e

-- the owner is that of the ref with the name, or the office
owner_kept : (office : ℕ) (name : List ℕ) (l : List plain.NamedRef) (n : plain.NamedRef) → ref_named name l ≡ some n → owner_after office name l ≡ n.owner
owner_kept office name l n e = rw (e, owner_after)

owner_made : (office : ℕ) (name : List ℕ) (l : List plain.NamedRef) → ref_named name l ≡ none → owner_after office name l ≡ office
owner_made office name l e = rw (e, owner_after)

pub returns-then-same_name : goal.returns-then-same_name
returns-then-same_name c =
    let p = c.requires in
    let h = tidy_refs p.laid_refs in
    let e = sym (c.same_name.ensures ∙ same_names (name_of (ref_at_lem p.laid_refs c.place-at.result _ c.if-at-t.true)) p.laid_refs_part.name) ∙ c.if-same_name.true in
    replaced made_refs h c.place-at.result (owned c.args.x _) c.if-at-t.true (part_ref p.laid_refs_part _).back refl refl
    ∙ ap laid_refs
    (put_replaced h names_ordered names_told_lem (λ x. x.name) (read_ref (owned c.args.x _)) c.place-at.ensures _ c.if-at-t.true e
    ∙ by_rule c.args.office _ c.args.x (read_refs c.args.t) (owner_kept c.args.office (read_name c.args.x.name) (read_refs c.args.t) _ (first_replaced h names_ordered names_told_lem (λ x. x.name) (read_ref (owned c.args.x 0)) c.place-at.ensures _ c.if-at-t.true e)))

pub insert-requires-clause-place : goal.insert-requires-clause-place
insert-requires-clause-place c = place_within (tidy_refs c.requires.laid_refs) (λ y. not (name_below y.name (read_name c.args.x.name))) c.place-at.ensures

pub insert-requires-clause-room : goal.insert-requires-clause-room
insert-requires-clause-room c =
    let p = c.requires in
    let h = tidy_refs p.laid_refs in
    let vacant : Vacant refs same_bytes (λ x. x.name) (read_ref (owned c.args.x c.args.office)) c.args.t c.place-at.result =
    elim c.else-at-t.branch [
      | else-at-t-via-then-at-t+else-same_name w ↦
          record { past = _; free = λ b. sym (w.same_name.ensures ∙ same_names (name_of (ref_at_lem p.laid_refs c.place-at.result _ w.if-at-t.true)) p.laid_refs_part.name) ∙ w.if-same_name.false }
      | else-at-t-via-else-at-t w ↦ record { past = owned c.args.x 0; free = λ b. absurd (omega (arith, w.if-at-t.false)) }
    ] in
    omega (arith, put_room h names_ordered names_told_lem (λ x. x.name) (read_ref (owned c.args.x c.args.office)) c.place-at.ensures vacant p.t_value p.count_bound, long h)

pub returns : goal.returns
returns c =
    let p = c.requires in
    let h = tidy_refs p.laid_refs in
    let made = read_ref (owned c.args.x c.args.office) in
    let vacant : Vacant refs same_bytes (λ x. x.name) (read_ref (owned c.args.x c.args.office)) c.args.t c.place-at.result =
    elim c.else-at-t.branch [
      | else-at-t-via-then-at-t+else-same_name w ↦
          record { past = _; free = λ b. sym (w.same_name.ensures ∙ same_names (name_of (ref_at_lem p.laid_refs c.place-at.result _ w.if-at-t.true)) p.laid_refs_part.name) ∙ w.if-same_name.false }
      | else-at-t-via-else-at-t w ↦ record { past = owned c.args.x 0; free = λ b. absurd (omega (arith, w.if-at-t.false)) }
    ] in
    let n = none_held h names_ordered names_told_lem (λ x. x.name) made c.place-at.ensures vacant p.t_value in
    inserted_laid made_refs h (part_ref p.laid_refs_part c.args.office).back (place_within h (λ y. not (name_below y.name (read_name c.args.x.name))) c.place-at.ensures)
    (put_room h names_ordered names_told_lem (λ x. x.name) made c.place-at.ensures vacant p.t_value p.count_bound) c.insert.ensures refl
    ∙ ap laid_refs
    (put_vacant h names_ordered names_told_lem (λ x. x.name) made c.place-at.ensures vacant
    ∙ by_rule c.args.office c.args.office c.args.x (read_refs c.args.t) (owner_made c.args.office (read_name c.args.x.name) (read_refs c.args.t) (first_none (has_name (read_name c.args.x.name)) (read_refs c.args.t) n)))
