-- Every step can be taken back, so each of two files of which the one comes of the other by steps comes of the other.
use Prim.Native.Nat.{ℕ}
use mathlib.Core.Path.{◌≡◌, refl, sym, ap, ◌∙◌}
use mathlib.Core.List.{List}
use mathlib.Core.Option.{Option, none, some, none-ne-some}
use Rattle.rules.specs.Register.{Metadata}
use Rattle.json_rule.specs.Tree.{text, Json, Items, Members}
use Rattle.file_rule.specs.Import.{Imported, imported}
use Rattle.file_spacing.specs.Places.{unplaced}
use Rattle.file_order.specs.Order.{Turned, in_array, in_object, TurnedItems, in_item, behind_item, TurnedMembers, turned, in_member, behind_member, ExchangedItems, exchanged, behind, ExchangedIn, in_table, behind_table, Reordered, same, members, records}
use Rattle.file_order.proofs.Reordering.{order_accepted}

mutual
  turned_back : {x y : Json} → Turned x y → Turned y x
  turned_back (in_array h) = in_array (items_back h)
  turned_back (in_object h) = in_object (members_back h)

  items_back : {xs ys : Items} → TurnedItems xs ys → TurnedItems ys xs
  items_back (in_item h) = in_item (turned_back h)
  items_back (behind_item h) = behind_item (items_back h)

  members_back : {ms ns : Members} → TurnedMembers ms ns → TurnedMembers ns ms
  members_back turned = turned
  members_back (in_member h) = in_member (turned_back h)
  members_back (behind_member h) = behind_member (members_back h)

exchanged_back : {xs ys : Items} → ExchangedItems xs ys → ExchangedItems ys xs
exchanged_back exchanged = exchanged
exchanged_back (behind h) = behind (exchanged_back h)

table_back : {ms ns : Members} → ExchangedIn ms ns → ExchangedIn ns ms
table_back (in_table q h) = in_table q (exchanged_back h)
table_back (behind_table h) = behind_table (table_back h)

pub reordered_joined : {x y z : Json} → Reordered x y → Reordered y z → Reordered x z
reordered_joined same k = k
reordered_joined (members h r) k = members h (reordered_joined r k)
reordered_joined (records h r) k = records h (reordered_joined r k)

pub reordered_back : {x y : Json} → Reordered x y → Reordered y x
reordered_back same = same
reordered_back (members h r) = reordered_joined (reordered_back r) (members (turned_back h) same)
reordered_back (records h r) = reordered_joined (reordered_back r) (records (table_back h) same)

-- a file that is refused is refused in every order
pub order_refused : (a b : List ℕ) (x y : Json) → text a ≡ record { tree = some x; stop = none } → text b ≡ record { tree = some y; stop = none } → Reordered (unplaced x) (unplaced y)
    → (imported a).metadata ≡ none → (imported b).metadata ≡ none
order_refused a b x y p q r e = go (imported b).metadata refl
  where
    go : (o : Option Metadata) → (imported b).metadata ≡ o → o ≡ none
    go none k = refl
    go (some m) k =
        absurd (none-ne-some m (sym e ∙ ap (λ (i : Imported). i.metadata) (order_accepted b a y x q p (reordered_back r) m k) ∙ k))
