-- Where snapshots go no more is reached than before, and so no more is needed by the other office.
use Prim.Native.Nat.{ℕ, ◌≤◌}
use native.Mathlib.Omega.{arith}
use mathlib.Core.Path.{◌≡◌, sym, ap, ◌∙◌}
use mathlib.Core.Bool.{Bool, true, ◌&&◌}
use mathlib.Core.List.{List}
use lib.IntN.{ℤ}
use lib.ListN.{length}
use Rattle.rules.specs.Words.{keep, is_in, first, ascending}
use Rattle.rules.specs.Capacities.{snapshot_room}
use Rattle.rules.specs.Register.{Snapshot, NamedRef, Metadata, with_snapshots}
use Rattle.rules.specs.WellFormed.{snapshot_below, has_snapshot, holds_snapshot}
use Rattle.rules.specs.Walk.{reach}
use Rattle.rules.specs.Others.{is_second, others_refs, others_reach, is_logged, is_needed}
use Rattle.rules.proofs.Checks.{or_left, or_right, by_either}
use Rattle.rules.proofs.Orders.{numbers_ordered, numbers_told}
use Rattle.rules.proofs.Tables.{first_any, first_kept, keep_length}
use Rattle.rules.proofs.History.Lists.{found_any, any_found}
use Rattle.rules.proofs.Offices.Follow.{way_agrees, parent_in, parent_field, parent_record, some_of, reach_way, reach_held, way_reached}

module _ (p : Snapshot → Bool) (l : List Snapshot) (few : length l ≤ snapshot_room) (order : ascending snapshot_below l ≡ true) where
  -- one that stays keeps its record, and so its parent
  parent_stays : (id : ℤ) → holds_snapshot (keep p l) id ≡ true → parent_in l id ≡ parent_in (keep p l) id
  parent_stays id h =
      let k = some_of (first (has_snapshot id) (keep p l)) (first_any (has_snapshot id) (keep p l) ∙ h) in
      parent_record l id
      ∙ ap parent_field (first_kept numbers_ordered (λ (s : Snapshot). s.id) numbers_told p id k.0 l order k.1 ∙ sym k.1)
      ∙ sym (parent_record (keep p l) id)

  pub reach_fewer : (start id : ℤ) → is_in (reach (keep p l) start) id ≡ true → is_in (reach l start) id ≡ true
  reach_fewer start id h =
      let left : List Snapshot = keep p l in
      let fewer : length left ≤ snapshot_room = omega (arith, keep_length p l) in
      let k = reach_way left fewer start in
      way_reached l few start (reach left start) k.0
      (way_agrees (parent_in left) (parent_in l) start (reach left start) k.0 k.1 (λ z i. parent_stays z (reach_held left fewer start z i)))
      id h

-- what is needed then was needed before
pub needed_before : (office : ℕ) (m : Metadata) (p : Snapshot → Bool) → length m.snapshots ≤ snapshot_room → ascending snapshot_below m.snapshots ≡ true
    → (id : ℤ) → is_needed office (with_snapshots (keep p m.snapshots) m) id ≡ true → is_needed office m id ≡ true
needed_before office m p few order id =
    let after : Metadata = with_snapshots (keep p m.snapshots) m in
    let reaches : List Snapshot → NamedRef → Bool = λ l r. is_in (reach l r.reference.snapshot) id in
    by_either (others_reach office after id) (is_second office && is_logged m id)
    (λ h. let k = any_found (reaches (keep p m.snapshots)) (others_refs office m.refs) h in
    or_left (is_second office && is_logged m id) {a = others_reach office m id}
    (found_any (reaches m.snapshots) (others_refs office m.refs) k.1 (reach_fewer p m.snapshots few order k.0.reference.snapshot id k.2)))
    (or_right (others_reach office m id))
