-- Each byte in its slot.
use Rattle.std.proofs.Common.{◌≡◌, ℕ, cond, refl, ◌∙◌, arith, rules}
use Rattle.std.specs.Prelude.{nat_lt}
use Rattle.std.proofs.lemmas.Bool.{lt-ltb}
use Rattle.json_members.specs.Uuids.{uuid_byte}
use Rattle.json_store.proofs.Ids.{left_all}
use Rattle.file_records.proofs.Filling.{filled}
use Rattle.file_records.proofs.text.uuid_of.Goals as goal

pub returns : goal.returns
returns c =
    left_all {g = λ (b : ℕ). b} {f = uuid_byte c.args.kept.now} {room = 16} {blank = 0}
    (filled (omega arith) refl c.fill.ensures
    (λ i x b p.
    let made : x ≡ cond (nat_lt i 16) (uuid_byte c.args.kept.now i) 0 = search rules in
    made ∙ rw (lt-ltb i 16 b)))
    (omega arith)
