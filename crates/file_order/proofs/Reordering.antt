-- Order does not matter: document 02, request (vii), "import takes members and table records in any order". A file that is accepted is accepted with its members
-- in any order, anywhere in it, and with the records of its tables in any order, and the whole answer is the same.
use Prim.Native.Nat.{ℕ}
use mathlib.Core.Path.{◌≡◌, refl, sym, ap, subst, ◌∙◌}
use mathlib.Core.Bool.{Bool, true, false, true≢false}
use mathlib.Core.List.{List, [], ◌∷◌, ◌++◌, append-nil}
use mathlib.Core.Option.{Option, none, some, none-ne-some}
use Rattle.rules.specs.Words.{is_some}
use Rattle.rules.specs.Register.{Metadata}
use Rattle.rules.specs.WellFormed.{metadata_formed}
use Rattle.rules.proofs.Checks.{by_test}
use Rattle.json_rule.specs.Tree.{Defect, Json, Object, Members, Text, text}
use Rattle.json_rule.specs.Members.{is_one_of, names_of, members_in}
use Rattle.json_rule.specs.Defects.{least}
use Rattle.file_rule.specs.Tables.{TheFile, OfKind, rows_in}
use Rattle.file_rule.specs.FileDefects.{version_of, missing_defects, defects, member_defects, file_defects}
use Rattle.file_rule.specs.Import.{fields_of, metadata_of, skipped_in, Imported, formed_or1, answered, imported}
use Rattle.file_round.proofs.Scalars.{Version}
use Rattle.file_round.proofs.Bounds.{formed, version_of_lem}
use Rattle.file_spacing.specs.Places.{unplaced}
use Rattle.file_spacing.proofs.Parts.{metadata_same}
use Rattle.file_spacing.proofs.Alike.{answer_to, Alike, alike_turned, alike_joined, some_least, answer_moved, answer_accepted}
use Rattle.file_order.specs.Order.{Turned, in_array, in_object, ExchangedIn, Reordered, same, members, records}
use Rattle.file_order.proofs.Turning.{no_both, both_none, value_turned, missing_same}
use Rattle.file_order.proofs.File.{skipped_turned, version_turned, file_turned}
use Rattle.file_order.proofs.Exchange.{members_right, names_exchanged, skipped_exchanged, version_exchanged, file_exchanged}

-- ---- what is accepted

-- a text that was read whole
abbrev pub read : Json → Text
read x = record { tree = some x; stop = none }

abbrev pub answer_of : Json → Imported
answer_of x = answer_to (read x)

abbrev version_in : Json → ℕ
version_in x = version_of (members_in x)

-- all that is wrong with a file
abbrev wrong : ℕ → Json → List Defect
wrong version x = defects version 0 false (OfKind TheFile) x

-- nothing is, and its metadata is well formed
record Accepted (x : Json) : Type 0 where
  right : wrong (version_in x) x ≡ []
  formed : metadata_formed (metadata_of (version_in x) (members_in x)) ≡ true

none_least : (ds : List Defect) → least ds ≡ none → ds ≡ []
none_least [] e = refl
none_least (d ∷ ds) e = absurd (true≢false (sym (some_least d (least ds)) ∙ ap is_some e))

accepted : (x : Json) (m : Metadata) → (answer_of x).metadata ≡ some m → Accepted x
unfolding file_defects
accepted x m e = go (least (wrong (version_in x) x ++ [])) refl e
  where
    go : (o : Option Defect) → least (wrong (version_in x) x ++ []) ≡ o → (answered (members_in x) o).metadata ≡ some m → Accepted x
    go none q k = record {
      right = sym (append-nil (wrong (version_in x) x)) ∙ none_least (wrong (version_in x) x ++ []) q;
      formed = by_test (λ (r : Imported). r.metadata ≡ some m → metadata_formed (metadata_of (version_in x) (members_in x)) ≡ true) (metadata_formed (metadata_of (version_in x) (members_in x))) (λ h _. h) (λ _ n. absurd (none-ne-some m n)) k;
    }
    go (some d) q k = absurd (none-ne-some m k)

-- ---- a step

record Step (x y : Json) : Type 0 where
  version : version_in x ≡ version_in y
  right : wrong (version_in x) y ≡ []
  metadata : metadata_of (version_in x) (members_in x) ≡ metadata_of (version_in x) (members_in y)
  skipped : skipped_in (version_in x) (members_in x) ≡ skipped_in (version_in x) (members_in y)

step_answer : (x y : Json) → Accepted x → Step x y → answer_of y ≡ answer_of x
unfolding file_defects
step_answer x y a s =
    ap (λ (v : ℕ). answered (members_in y) (least (wrong v y ++ []))) (sym s.version)
    ∙ ap (λ (ds : List Defect). answered (members_in y) (least (ds ++ []))) s.right
    ∙ ap (λ (v : ℕ). formed_or1 (skipped_in v (members_in y)) (metadata_of v (members_in y))) (sym s.version)
    ∙ sym (λ i. formed_or1 (s.skipped i) (s.metadata i))
    ∙ sym (ap (λ (ds : List Defect). answered (members_in x) (least (ds ++ []))) a.right)

version_told : (version : ℕ) (ms : Members) → metadata_formed (metadata_of version ms) ≡ true → Version version
unfolding metadata_of fields_of
version_told version ms h = version_of_lem version (formed (metadata_of version ms) h).version

turned_step : {x y : Json} → Turned x y → Accepted x → Step x y
unfolding defects
turned_step (in_array h) a = absurd (true≢false (ap is_there a.right))
  where
    is_there : List Defect → Bool
    is_there [] = false
    is_there (d ∷ ds) = true
turned_step (in_object {place = place} {ms = ms} {ns = ns} {closed = closed} h) a =
    let v : Version (version_of ms) = version_told (version_of ms) ms a.formed in
    let e : member_defects (version_of ms) 0 TheFile (rows_in (version_of ms) TheFile) [] ms ≡ [] =
    (no_both (member_defects (version_of ms) 0 TheFile (rows_in (version_of ms) TheFile) [] ms) (missing_defects (version_of ms) TheFile place ms closed) a.right).0 in
    record {
      version = version_turned v ms ns h e;
      right = value_turned (version_of ms) (in_object {place = place} {closed = closed} h) 0 false (OfKind TheFile) a.right;
      metadata = metadata_same (version_of ms) ms ns (file_turned v ms ns h e (formed (metadata_of (version_of ms) ms) a.formed));
      skipped = skipped_turned (version_of ms) h;
    }

exchanged_step : (place : ℕ) (closed : Bool) {ms ns : Members} → ExchangedIn ms ns → Accepted (Object place ms closed) → Step (Object place ms closed) (Object place ns closed)
unfolding defects
exchanged_step place closed {ms} {ns} h a =
    let e = no_both (member_defects (version_of ms) 0 TheFile (rows_in (version_of ms) TheFile) [] ms) (missing_defects (version_of ms) TheFile place ms closed) a.right in
    record {
      version = version_exchanged h;
      right = both_none (members_right (version_of ms) 0 TheFile (rows_in (version_of ms) TheFile) h [] e.0)
          (missing_same (version_of ms) (names_of ns) (names_of ms) (λ w. ap (λ (l : List (List ℕ)). is_one_of l w) (names_exchanged h)) TheFile place closed ∙ e.1);
      metadata = metadata_same (version_of ms) ms ns (file_exchanged (version_of ms) ms ns h (formed (metadata_of (version_of ms) ms) a.formed));
      skipped = skipped_exchanged (version_of ms) h;
    }

-- ---- any order

pub reordered_accepted : {x y : Json} → Reordered x y → (m : Metadata) → (answer_of x).metadata ≡ some m → answer_of y ≡ answer_of x
reordered_accepted same m e = refl
reordered_accepted (members {x = x} {y = y} h r) m e =
    let s : answer_of y ≡ answer_of x = step_answer x y (accepted x m e) (turned_step h (accepted x m e)) in
    reordered_accepted r m (ap (λ (a : Imported). a.metadata) s ∙ e) ∙ s
reordered_accepted (records {place = place} {ms = ms} {ns = ns} {closed = closed} h r) m e =
    let s : answer_of (Object place ns closed) ≡ answer_of (Object place ms closed) =
    step_answer (Object place ms closed) (Object place ns closed) (accepted (Object place ms closed) m e) (exchanged_step place closed h (accepted (Object place ms closed) m e)) in
    reordered_accepted r m (ap (λ (a : Imported). a.metadata) s ∙ e) ∙ s

-- "any order": two files whose trees, but for places, are reached from each other by such steps; where the one is accepted the whole answer is the same
pub order_accepted : (a b : List ℕ) (x y : Json) → text a ≡ record { tree = some x; stop = none } → text b ≡ record { tree = some y; stop = none } → Reordered (unplaced x) (unplaced y)
    → (m : Metadata) → (imported a).metadata ≡ some m → imported b ≡ imported a
unfolding imported
order_accepted a b x y p q r m e =
    let u : Alike (answer_of (unplaced x)) (answer_of x) = answer_moved (λ place. 0) (read x) in
    let w : Alike (answer_of (unplaced y)) (answer_of y) = answer_moved (λ place. 0) (read y) in
    let k : (answer_of x).metadata ≡ some m = sym (ap (λ (t : Text). (answer_to t).metadata) p) ∙ e in
    let s : answer_of (unplaced y) ≡ answer_of (unplaced x) = reordered_accepted r m (u.metadata ∙ k) in
    let t : Alike (answer_of x) (answer_of y) = alike_joined (alike_turned u) (subst (λ (z : Imported). Alike z (answer_of y)) s w) in
    ap answer_to q ∙ answer_accepted (read x) (read y) m t k ∙ sym (ap answer_to p)
