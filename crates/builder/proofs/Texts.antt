-- A trimmed text fits where the text does.
use Prim.Native.Nat.{◌≤◌}
use native.Mathlib.Omega.{arith}
use Rattle.records.specs.declared.text.Text.{Text}
use Rattle.rules.specs.Capacities.{text_room}
use Rattle.rules.specs.Names.{trimmed}
use Rattle.rules.specs.Layout.{read_text, laid_text}
use Rattle.rules.proofs.Slots.Relaid.{length_counted}
use Rattle.rules.proofs.Sound.Singles.{trimmed_length}

pub trimmed_fits : (t : Text) → t.len ≤ text_room → (laid_text (trimmed (read_text t))).len ≤ text_room
unfolding laid_text
trimmed_fits t h = omega (arith, trimmed_length (read_text t), length_counted 0 t.bytes t.len)
