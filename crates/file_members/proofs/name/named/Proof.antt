-- Each record has its names, and nothing else has any.
use mathlib.Core.Path.{sym}
use borrow.Author.Rules.{rules}
use Rattle.json_members.proofs.Cases.{no_arm}
use Rattle.file_cells.specs.Wants.{kind_at}
use Rattle.file_members.specs.Names.{named_in}
use Rattle.file_members.proofs.Names.{kind_arms, named_past}
use Rattle.file_members.proofs.name.named.Statement.{statement}
use Rattle.file_members.proofs.name.named.Tie as tie

returns_14 : tie.Need-returns-in_default
returns_14 c =
    let kind = c.args.kind in
    sym (named_past kind _ (no_arm kind_arms kind c.in_default.in_default-own.rest))

pub named_spec : {M : Type 1} → statement M
unfolding named_in kind_at
named_spec =
    tie.close
    (tie.spec
    (λ c κs. search rules)
    (λ c κs. search rules)
    (λ c κs. search rules)
    (λ c κs. search rules)
    (λ c κs. search rules)
    (λ c κs. search rules)
    (λ c κs. search rules)
    (λ c κs. search rules)
    (λ c κs. search rules)
    (λ c κs. search rules)
    (λ c κs. search rules)
    (λ c κs. search rules)
    (λ c κs. search rules)
    (λ c. rw c.in-0.is c.file_member.ensures)
    (λ c. rw c.in-1.is c.snapshot_member.ensures)
    (λ c. rw c.in-2.is c.schema_member.ensures)
    (λ c. rw c.in-3.is c.field_member.ensures)
    (λ c. rw c.in-4.is c.spec_member.ensures)
    (λ c. rw c.in-5.is c.partition_field_member.ensures)
    (λ c. rw c.in-6.is c.order_member.ensures)
    (λ c. rw c.in-7.is c.sort_field_member.ensures)
    (λ c. rw c.in-8.is c.ref_member.ensures)
    (λ c. rw c.in-9.is c.log_entry_member.ensures)
    (λ c. rw c.in-10.is c.file_entry_member.ensures)
    (λ c. rw c.in-11.is c.statistics_member.ensures)
    (λ c. rw c.in-12.is c.partition_statistics_member.ensures)
    returns_14)
