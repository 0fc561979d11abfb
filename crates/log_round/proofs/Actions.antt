-- An update as an object with its action first: that the action is found, that no member is foreign to it and none is missing.
use Prim.Native.Nat.{ℕ}
use Prim.Native.String.{String}
use mathlib.Core.Path.{◌≡◌, refl, ◌∙◌, ap}
use mathlib.Core.Bool.{Bool, true, false, not, ◌&&◌}
use mathlib.Core.List.{List, [], ◌∷◌, ◌++◌, map}
use mathlib.Core.Option.{Option, none, some}
use Rattle.rules.specs.Words.{some_with, all, same_bytes}
use Rattle.rules.proofs.Checks.{parts, and_left, and_right}
use Rattle.rules.proofs.Orders.{names_told_lem}
use Rattle.json_rule.specs.Letters.{bytes}
use Rattle.json_rule.specs.Members.{is_one_of, text_in}
use Rattle.json_rule.specs.Records.{Sent}
use Rattle.json_rule.specs.Shapes.{AnUpdate, OneOf, ARecord, Action, actions, action_name, update_rows}
use Rattle.json_rule.specs.Defects.{not_published, unless, listed_action, action_of, is_foreign, foreign_names, required_names}
use Rattle.json_rule.specs.Reading.{sent_by}
use Rattle.file_rule.specs.Written.{quoted, escaped_byte, word_text, object_text}
use Rattle.file_rule.specs.Export.{is_utf8}
use Rattle.file_round.proofs.Documents.{Document, Entries, bytes_of, Good, past, behind, tree_at, members_at}
use Rattle.file_round.proofs.Texts.{text_token_lem, text_read_lem}
use Rattle.file_round.proofs.Fields.{Field, field, with_field, entries_of, quotation, object, group_text, group_text_lem, object_text_lem, fields_good, ValuesGood, is_there, unnamed, looked}
use Rattle.file_round.proofs.Scalars.{word_fine}
use Rattle.log_rule.specs.LogText.{action_text}
use Rattle.log_round.proofs.Objects.{Fine, ValuesFine, published, single_fine, object_fine}

-- the fields of an update of an action
abbrev pub with_action : String → List Field → List Field
with_action word fs = field "action" (quotation (bytes word)) ∷ fs

abbrev pub words : List (List ℕ)
words = map (λ (a : Action). a.word) actions

-- no field is foreign to an action
abbrev pub own_names : Action → List Field → Bool
own_names a fs = all (λ (f : Field). not (is_foreign a f.name)) fs

with_own_lem : (a : Action) (name : List ℕ) (o : Option Document) (es : Entries) (place : ℕ) → not (is_foreign a name) ≡ true → ((p : ℕ) → foreign_names a (members_at p es) ≡ []) → foreign_names a (members_at place (with_field name o es)) ≡ []
unfolding tree_at
with_own_lem a name none es place h again = again place
with_own_lem a name (some d) es place h again =
    let next = past (behind (past (past place (quoted name)) (58 ∷ [])) d) (44 ∷ []) in
    ap (λ o. unless (not (some_with (is_foreign a) o)) place not_published ++ foreign_names a (members_at next es)) (text_read_lem place name)
    ∙ ap (λ b. unless b place not_published ++ foreign_names a (members_at next es)) h
    ∙ again next

foreign_none : (a : Action) (fs : List Field) → own_names a fs ≡ true → (place : ℕ) → foreign_names a (members_at place (entries_of fs)) ≡ []
unfolding tree_at
foreign_none a [] h place = refl
foreign_none a (f ∷ fs) h place =
    with_own_lem a f.name f.value (entries_of fs) place (and_left (not (is_foreign a f.name)) (own_names a fs) h) (λ p. foreign_none a fs (and_right (not (is_foreign a f.name)) (own_names a fs) h) p)

-- what can be told of the names alone
abbrev pub names_told : String → Action → List Field → Bool
names_told word a fs =
    unnamed action_name fs
    && published update_rows [] (with_action word fs)
    && all (is_there (with_action word fs)) (action_name ∷ required_names a.rows)
    && own_names a (with_action word fs)
    && is_one_of words (bytes word)
    && is_utf8 (bytes word)
    && all (λ (f : Field). is_utf8 f.name) (with_action word fs)
    && same_bytes (word_text word) (quoted (bytes word))

-- an update is written as an object that can be read, with which nothing is wrong, and which sends it
pub record Shown (s : Sent) (text : List ℕ) (fs : List Field) : Type 0 where
  pub written : text ≡ bytes_of (object fs)
  pub good : Good 1 (object fs)
  pub fine : Fine false (ARecord AnUpdate) (some (object fs))
  pub made : (place : ℕ) → sent_by (members_at place (entries_of fs)) ≡ s ∷ []

module _ (word : String) (a : Action) (fs : List Field) (listed : listed_action (some (bytes word)) ≡ some a) (told : names_told word a fs ≡ true) where
  abbrev all_told : List Bool
  all_told =
      published update_rows [] (with_action word fs)
      ∷ all (is_there (with_action word fs)) (action_name ∷ required_names a.rows)
      ∷ own_names a (with_action word fs)
      ∷ is_one_of words (bytes word)
      ∷ is_utf8 (bytes word)
      ∷ all (λ (f : Field). is_utf8 f.name) (with_action word fs)
      ∷ same_bytes (word_text word) (quoted (bytes word))
      ∷ []

  action_read : (place : ℕ) → action_of (members_at place (entries_of (with_action word fs))) ≡ some a
  unfolding action_of tree_at
  action_read place =
      let l = looked action_name (with_action word fs) (some (quotation (bytes word))) (refl, (parts (unnamed action_name fs) all_told told).0) place in
      ap (λ o. elim o [ none ↦ none | some x ↦ listed_action (text_in x) ]) l.1 ∙ ap listed_action (text_read_lem l.0 (bytes word)) ∙ listed

  action_written : (members : List ℕ) → members ≡ group_text fs → action_text word members ≡ bytes_of (object (with_action word fs))
  unfolding bytes_of quoted escaped_byte
  action_written members e =
      ap (λ w. object_text ((word_text "action" ++ (58 ∷ w)) ++ members)) (names_told_lem.equal (word_text word) (quoted (bytes word)) (parts (unnamed action_name fs) all_told told).1.1.1.1.1.1.1.0)
      ∙ ap (λ l. object_text ((word_text "action" ++ (58 ∷ quoted (bytes word))) ++ l)) (e ∙ group_text_lem fs)
      ∙ object_text_lem "action" (quotation (bytes word)) fs

  action_good : ValuesGood 2 fs → Good 1 (object (with_action word fs))
  action_good g =
      let k = parts (unnamed action_name fs) all_told told in
      (refl, fields_good 2 (with_action word fs) k.1.1.1.1.1.1.0 (text_token_lem (bytes word) k.1.1.1.1.1.0, g))

  action_fine : ValuesFine update_rows fs → Fine false (ARecord AnUpdate) (some (object (with_action word fs)))
  action_fine v =
      let k = parts (unnamed action_name fs) all_told told in
      object_fine AnUpdate (with_action word fs) (action_name ∷ required_names a.rows)
      (record {
        foreign = λ place. ap (λ o. elim o [ none ↦ [] | some b ↦ foreign_names b (members_at place (entries_of (with_action word fs))) ]) (action_read place) ∙ foreign_none a (with_action word fs) k.1.1.1.0 place;
        needs = λ place. ap (λ o. action_name ∷ elim o [ none ↦ [] | some b ↦ required_names b.rows ]) (action_read place);
      })
      k.1.0 k.1.1.0 (single_fine 3 false (OneOf words) (quoted (bytes word)) (word_fine 3 false words (bytes word) k.1.1.1.1.0), v)

  pub action_shown : (s : Sent) (members : List ℕ) → members ≡ group_text fs → ValuesGood 2 fs → ValuesFine update_rows fs → ((place : ℕ) → a.sends (members_at place (entries_of (with_action word fs))) ≡ s)
      → Shown s (action_text word members) (with_action word fs)
  action_shown s members e g v m =
      record {
        written = action_written members e;
        good = action_good g;
        fine = action_fine v;
        made = λ place. ap (λ o. elim o [ none ↦ [] | some b ↦ (b.sends (members_at place (entries_of (with_action word fs)))) ∷ [] ]) (action_read place) ∙ ap (λ x. x ∷ []) (m place);
      }
