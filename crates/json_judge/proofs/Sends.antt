-- What is sent over a tree: a value that was closed is held as the rule reads it, and what was closed in it has sent what its updates send.
use Prim.Native.Nat.{ℕ}
use mathlib.Core.Path.{◌≡◌, refl, sym, ap, ◌∙◌}
use mathlib.Core.Bool.{true, false, false≢true}
use mathlib.Core.List.{List, [], ◌∷◌, ◌++◌, append-nil, append_assoc}
use Rattle.rules.proofs.Checks.{and_left, and_right}
use Rattle.json_rule.specs.Tree.{Json, Scalar, Array, Object, Items, no_item, item, Members, no_member, bare_name, member}
use Rattle.json_rule.specs.Records.{Sent}
use Rattle.json_judge.specs.Frames.{Wanted, Frame, Outside, InList, InObject, PassedList, PassedObject, ListBracket, bracket_of, opened_list, opened_object, each, wanted_after, named}
use Rattle.json_judge.specs.Course.{Happening}
use Rattle.json_judge.specs.Sending.{Held, Holding, HoldsItems, HoldsMembers, HoldsName, items_before, members_before, put, sent_at, Sending, sends_all}
use Rattle.json_judge.proofs.Walk.{settled, behind, settled_bracket, opened_list_lem, happen, items_happen, members_happen}
use Rattle.json_judge.proofs.Follow.{is_closed, are_closed, are_all}

-- what the updates in a value send; of the members of an object all are given
unfoldable mutual
  pub in_value : Json → Wanted → Frame → List Sent
  in_value (Scalar t) w f = []
  in_value (Array place xs closed) w f = in_items xs (opened_list w f place)
  in_value (Object place ms closed) w f = in_members ms ms (opened_object w f place)

  pub in_items : Items → Frame → List Sent
  in_items no_item f = []
  in_items (item x xs) f = in_value x (each f) f ++ in_items xs (settled (each f) x f)

  pub in_members : Members → Members → Frame → List Sent
  in_members no_member whole f = sent_at f whole
  in_members (bare_name t) whole f = []
  in_members (member t x ms) whole f = in_value x (wanted_after f t) (named f t) ++ in_members ms whole (behind f t x)

abbrev state : List Holding → List Sent → Sending
state holdings sent = record { holdings = holdings; sent = sent }

-- a list is no update
list_sends : (f : Frame) (ms : Members) → bracket_of f ≡ ListBracket → sent_at f ms ≡ []
list_sends Outside ms b = refl
list_sends (InList l) ms b = refl
list_sends (InObject o) ms b = cc
list_sends PassedList ms b = refl
list_sends PassedObject ms b = refl

as_sent : (later : List Happening) (holdings : List Holding) (a b : List Sent) → a ≡ b → sends_all later (state holdings a) ≡ sends_all later (state holdings b)
as_sent later holdings a b e = ap (λ (l : List Sent). sends_all later (state holdings l)) e

mutual
  unfolding happen in_value is_closed

  pub value_sent : (x : Json) (w : Wanted) (f : Frame) (later : List Happening) (holdings : List Holding) (sent : List Sent) → is_closed x ≡ true
      → sends_all (happen x w f later) (state holdings sent) ≡ sends_all later (state (put x holdings) (sent ++ in_value x w f))
  value_sent (Scalar t) w f later holdings sent c = as_sent later (put (Scalar t) holdings) sent (sent ++ []) (sym (append-nil sent))
  value_sent (Array place xs true) w f later holdings sent c = items_sent xs (opened_list w f place) later place [] holdings sent (opened_list_lem w f place) c
  value_sent (Array place xs false) w f later holdings sent c = absurd (false≢true c)
  value_sent (Object place ms true) w f later holdings sent c = members_sent ms (opened_object w f place) later place [] holdings sent c
  value_sent (Object place ms false) w f later holdings sent c = absurd (false≢true c)

  items_sent : (xs : Items) (f : Frame) (later : List Happening) (place : ℕ) (before : List Json) (holdings : List Holding) (sent : List Sent) → bracket_of f ≡ ListBracket → are_closed xs ≡ true
      → sends_all (items_happen xs true f later) (state (HoldsItems place before ∷ holdings) sent) ≡ sends_all later (state (put (Array place (items_before before xs) true) holdings) (sent ++ in_items xs f))
  items_sent no_item f later place before holdings sent b c =
      as_sent later (put (Array place (items_before before no_item) true) holdings) _ _ (ap (λ (l : List Sent). sent ++ l) (list_sends f no_member b))
  items_sent (item x xs) f later place before holdings sent b c =
      value_sent x (each f) f (items_happen xs true (settled (each f) x f) later) (HoldsItems place before ∷ holdings) sent (and_left (is_closed x) (are_closed xs) c)
      ∙ (items_sent xs (settled (each f) x f) later place (x ∷ before) holdings (sent ++ in_value x (each f) f) (settled_bracket (each f) x f ∙ b) (and_right (is_closed x) (are_closed xs) c)
      ∙ as_sent later (put (Array place (items_before before (item x xs)) true) holdings) _ _ (append_assoc sent (in_value x (each f) f) (in_items xs (settled (each f) x f))))

  members_sent : (ms : Members) (f : Frame) (later : List Happening) (place : ℕ) (before : List Held) (holdings : List Holding) (sent : List Sent) → are_all ms ≡ true
      → sends_all (members_happen ms true f later) (state (HoldsMembers place before ∷ holdings) sent)
      ≡ sends_all later (state (put (Object place (members_before before ms) true) holdings) (sent ++ in_members ms (members_before before ms) f))
  members_sent no_member f later place before holdings sent c = refl
  members_sent (bare_name t) f later place before holdings sent c = absurd (false≢true c)
  members_sent (member t x ms) f later place before holdings sent c =
      value_sent x (wanted_after f t) (named f t) (members_happen ms true (behind f t x) later) (HoldsName place before t ∷ holdings) sent (and_left (is_closed x) (are_all ms) c)
      ∙ (members_sent ms (behind f t x) later place (record { name = t; value = x } ∷ before) holdings (sent ++ in_value x (wanted_after f t) (named f t)) (and_right (is_closed x) (are_all ms) c)
      ∙ as_sent later (put (Object place (members_before before (member t x ms)) true) holdings) _ _ (append_assoc sent (in_value x (wanted_after f t) (named f t)) (in_members ms (members_before before (member t x ms)) (behind f t x))))
