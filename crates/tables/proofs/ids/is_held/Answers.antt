-- The place is below the length exactly if the id is in the list.
use Rattle.std.proofs.Common.{◌≡◌, ℕ, ltb, length, ap, ◌∙◌, rules}
use Rattle.rules.specs.Words.{eq_z}
use Rattle.search.specs.Places.{index_of}
use Rattle.search.proofs.Places.{id_found}
use Rattle.tables.proofs.ids.is_held.Goals as goal

pub returns : goal.returns
returns c =
    let e : c.position_ascending.result ≡ index_of (λ x. eq_z x c.args.id.0) c.args.ids.now = search rules in
    ap (λ (n : ℕ). ltb n (length c.args.ids.now)) e ∙ id_found c.args.id.0 c.args.ids.now
