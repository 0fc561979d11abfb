use Rattle.std.proofs.Common.{◌≡◌, ◌<◌, ◌+◌, ◌-◌, ℕ, suc, sym, ap, ◌∙◌, List, length, drop, ◌∷◌, get_or, arith}
use borrow.Author.Rules.{sfits_of}
use mir.Facts.{to_z-of_z}
use Rattle.records.specs.declared.reference.NamedRef as records
use Rattle.records.specs.declared.reference.Refs.{Refs}
use Rattle.rules.specs.Register.{NamedRef}
use Rattle.rules.specs.Layout.{read_ref, read_refs}
use Rattle.tables.specs.Laid.{LaidRefs}
use Rattle.tables.proofs.Table.{within, read_length, rest}
use Rattle.tables.proofs.Each.{tidy_refs, ref_at_lem, name_of}
use Rattle.expiry.specs.Answer.{read_policy}
use Rattle.expiry.proofs.Findings.{from_end, from_kept, from_start}
use Rattle.expiry.proofs.kept.refs_findings.Goals as goal

-- the ref before an index, and those from there on
from_here : {t : Refs} → LaidRefs t → {i j : ℕ} (d : records.NamedRef) → i ≡ suc j → j < t.count → {l : List NamedRef} → read_refs t ≡ l → drop j l ≡ read_ref (get_or t.items j d) ∷ drop i l
from_here {t} h {i} {j} d e b q =
    let k : j + 1 ≡ i = omega (arith, e) in
    rw (← q) (rest (tidy_refs h) j d b ∙ ap (λ (n : ℕ). read_ref (get_or t.items j d) ∷ drop n (read_refs t)) k)

pub loop-i-init : goal.loop-i-init
loop-i-init c = λ m n k h t q. from_end (read_policy c.args.policy) m (sym (read_length (tidy_refs c.requires.laid_refs)) ∙ ap length n) (within (tidy_refs c.requires.laid_refs)) q

pub ref_kept-kept-requires-clause-laid_name : goal.ref_kept-kept-requires-clause-laid_name
ref_kept-kept-requires-clause-laid_name c = name_of (ref_at_lem c.requires.laid_refs (c.loop-i.i - 1) _ (omega (arith, c.loop-i-test.true, c.loop-i.auto.i)))

pub loop-i-preserved : goal.loop-i-preserved
loop-i-preserved c =
    let e : c.loop-i.i ≡ suc (c.loop-i.i - 1) = omega (arith, c.loop-i-test.true) in
    let b : c.loop-i.i - 1 < c.args.refs.count = omega (arith, c.loop-i-test.true, c.loop-i.auto.i) in
    λ m n k h t q. from_kept (read_policy c.args.policy) m _ e (from_here c.requires.laid_refs _ e b n)
    (c.ref_kept-kept.ensures m.snapshots h t (rw (to_z-of_z (sfits_of c.struct_told-1.given.0.1), c.snapshot_key.ensures, k) at c.position_ascending-start.ensures))
    c.overlaid-next.ensures
    (c.loop-i.invariant m n k h t q)

pub returns : goal.returns
returns c =
    λ m n k h t q.
    let z : c.loop-i.i ≡ 0 = omega (arith, c.loop-i-test.false) in
    from_start (read_policy c.args.policy) m (rw z at (c.loop-i.invariant m n k h t q))
