-- Spacing does not matter: document 02, request (vii), "import takes .. any spacing". Files whose lexemes are the same but for their places are answered alike.
use Prim.Native.Nat.{ℕ}
use mathlib.Core.Path.{◌≡◌, refl, sym, ap, subst, ◌∙◌}
use mathlib.Core.Bool.{true, false, cond, false≢true, true≢false}
use mathlib.Core.List.{List, [], ◌∷◌}
use mathlib.Core.Option.{Option, none, some, map, none-ne-some}
use lib.ListN.{length}
use Rattle.rules.specs.Words.{is_some}
use Rattle.rules.specs.Register.{Metadata}
use Rattle.rules.specs.WellFormed.{metadata_formed}
use Rattle.rules.proofs.Checks.{by_test}
use Rattle.json_rule.specs.Tree.{Defect, Json, Members, Text, text, text_of_lexemes}
use Rattle.json_rule.specs.Members.{members_in}
use Rattle.json_rule.specs.Lexemes.{lexemes}
use Rattle.json_rule.specs.Defects.{is_sooner, least, stop_defects}
use Rattle.file_rule.specs.Tables.{OfKind, TheFile}
use Rattle.file_rule.specs.FileDefects.{version_of, defects, tree_defects, file_defects}
use Rattle.file_rule.specs.Import.{metadata_of, skipped_in, Imported, formed_or1, said_by, answered, imported}
use Rattle.file_spacing.specs.Places.{moved, moved_members, moved_defect, unplaced, unplaced_lexemes}
use Rattle.file_spacing.proofs.Said.{members_in_lem, version_moved, metadata_moved, skipped_moved}
use Rattle.file_spacing.proofs.Judged.{there, joined, judged}
use Rattle.file_spacing.proofs.Read.{moved_text, text_moved}
use Rattle.file_spacing.proofs.Around.{value_around}

-- what is answered to a text that was read
abbrev pub answer_to : Text → Imported
answer_to t = answered (said_by t.tree) (least (file_defects t))

module _ (f : ℕ → ℕ) where
  tree_judged : (o : Option Json) → tree_defects (map (moved f) o) ≡ there f (tree_defects o)
  tree_judged none = refl
  tree_judged (some x) =
      ap (λ (v : ℕ). defects v 0 false (OfKind TheFile) (moved f x)) (ap version_of (members_in_lem f x) ∙ version_moved f (members_in x))
      ∙ value_around (version_of (members_in x)) 0 (f 0) (moved f x) (OfKind TheFile) refl
      ∙ judged f (version_of (members_in x)) x 0 false (OfKind TheFile)

  stop_judged : (o : Option Defect) → stop_defects (map (moved_defect f) o) ≡ there f (stop_defects o)
  stop_judged none = refl
  stop_judged (some d) = refl

  pub file_judged : (t : Text) → file_defects (moved_text f t) ≡ there f (file_defects t)
  unfolding file_defects
  file_judged t =
      joined f (tree_defects (map (moved f) t.tree)) (stop_defects (map (moved_defect f) t.stop)) (tree_defects t.tree) (stop_defects t.stop) (tree_judged t.tree) (stop_judged t.stop)

  pub said_moved : (o : Option Json) → said_by (map (moved f) o) ≡ moved_members f (said_by o)
  unfolding moved
  said_moved none = refl
  said_moved (some x) = members_in_lem f x

  -- where nothing is wrong the answer is the same
  pub right_moved : (ms : Members) → answered (moved_members f ms) none ≡ answered ms none
  right_moved ms =
      ap (λ (v : ℕ). formed_or1 (skipped_in v (moved_members f ms)) (metadata_of v (moved_members f ms))) (version_moved f ms)
      ∙ (λ i. formed_or1 (skipped_moved f (version_of ms) ms i) (metadata_moved f (version_of ms) ms i))

-- ---- whether anything is wrong

abbrev pub least_with : Defect → Option Defect → Option Defect
least_with d o = elim o [ none ↦ some d | some e ↦ cond (is_sooner e d) (some e) (some d) ]

pub some_least : (d : Defect) (o : Option Defect) → is_some (least_with d o) ≡ true
some_least d none = refl
some_least d (some e) = by_test (λ (o : Option Defect). is_some o ≡ true) (is_sooner e d) (λ _. refl) (λ _. refl)

wrong_moved : (f : ℕ → ℕ) (ds : List Defect) → is_some (least (there f ds)) ≡ is_some (least ds)
wrong_moved f [] = refl
wrong_moved f (d ∷ ds) = some_least (moved_defect f d) (least (there f ds)) ∙ sym (some_least d (least ds))

-- ---- answers

-- the metadata and the count of skipped members
pub record Alike (r s : Imported) : Type 0 where
  pub metadata : r.metadata ≡ s.metadata
  pub skipped : r.skipped ≡ s.skipped

as_right : (f : ℕ → ℕ) (ms : Members) (o p : Option Defect) → is_some p ≡ is_some o → Alike (answered (moved_members f ms) p) (answered ms o)
as_right f ms none none e = record { metadata = ap (λ (r : Imported). r.metadata) (right_moved f ms); skipped = ap (λ (r : Imported). r.skipped) (right_moved f ms) }
as_right f ms none (some p) e = absurd (true≢false e)
as_right f ms (some o) none e = absurd (false≢true e)
as_right f ms (some o) (some p) e = record { metadata = refl; skipped = refl }

pub answer_moved : (f : ℕ → ℕ) (t : Text) → Alike (answer_to (moved_text f t)) (answer_to t)
answer_moved f t =
    subst (λ (ms : Members). Alike (answered ms (least (file_defects (moved_text f t)))) (answer_to t)) (sym (said_moved f t.tree))
    (as_right f (said_by t.tree) (least (file_defects t)) (least (file_defects (moved_text f t))) (ap (λ (ds : List Defect). is_some (least ds)) (file_judged f t) ∙ wrong_moved f (file_defects t)))

abbrev accepting : ℕ → Metadata → Imported
accepting n m = record { number = 0; place = 0; skipped = n; metadata = some m }

-- where metadata is answered nothing was refused
accepted_is : (ms : Members) (o : Option Defect) (m : Metadata) → (answered ms o).metadata ≡ some m → answered ms o ≡ accepting (answered ms o).skipped m
accepted_is ms none m e =
    by_test (λ (r : Imported). r.metadata ≡ some m → r ≡ accepting r.skipped m) (metadata_formed (metadata_of (version_of ms) ms))
    (λ _ k. λ i. record { number = 0; place = 0; skipped = skipped_in (version_of ms) ms; metadata = k i }) (λ _ k. absurd (none-ne-some m k)) e
accepted_is ms (some d) m e = absurd (none-ne-some m e)

pub answer_accepted : (s t : Text) (m : Metadata) → Alike (answer_to s) (answer_to t) → (answer_to s).metadata ≡ some m → answer_to t ≡ answer_to s
answer_accepted s t m a e =
    accepted_is (said_by t.tree) (least (file_defects t)) m (sym a.metadata ∙ e)
    ∙ ap (λ (n : ℕ). accepting n m) (sym a.skipped)
    ∙ sym (accepted_is (said_by s.tree) (least (file_defects s)) m e)

-- ---- two files

pub alike_turned : {r s : Imported} → Alike r s → Alike s r
alike_turned a = record { metadata = sym a.metadata; skipped = sym a.skipped }

pub alike_joined : {r s t : Imported} → Alike r s → Alike s t → Alike r t
alike_joined a b = record { metadata = a.metadata ∙ b.metadata; skipped = a.skipped ∙ b.skipped }

-- two texts that are one at places that are not told
pub texts_alike : (f g : ℕ → ℕ) (s t : Text) → moved_text f s ≡ moved_text g t → Alike (answer_to s) (answer_to t)
texts_alike f g s t e =
    alike_joined (alike_turned (answer_moved f s)) (subst (λ (u : Text). Alike (answer_to u) (answer_to t)) (sym e) (answer_moved g t))

unplaced_read : (bs : List ℕ) → text_of_lexemes 0 (unplaced_lexemes bs) ≡ moved_text (λ place. 0) (text bs)
unfolding text
unplaced_read bs = text_moved (λ place. 0) (length bs) (lexemes (length bs) 0 bs)

-- Trees that are the same but for their places: the same metadata, and as many skipped members.
pub trees_alike : (a b : List ℕ) (x y : Json) → text a ≡ record { tree = some x; stop = none } → text b ≡ record { tree = some y; stop = none } → unplaced x ≡ unplaced y → Alike (imported a) (imported b)
unfolding imported
trees_alike a b x y p q e =
    texts_alike (λ place. 0) (λ place. 0) (text a) (text b)
    (ap (moved_text (λ place. 0)) p ∙ (λ i. record { tree = some (e i); stop = none }) ∙ sym (ap (moved_text (λ place. 0)) q))

-- "any spacing": files whose lexemes are the same but for their places
pub spacing_alike : (a b : List ℕ) → unplaced_lexemes a ≡ unplaced_lexemes b → Alike (imported a) (imported b)
unfolding imported
spacing_alike a b e =
    texts_alike (λ place. 0) (λ place. 0) (text a) (text b) (sym (unplaced_read a) ∙ ap (text_of_lexemes 0) e ∙ unplaced_read b)

-- a file that is accepted is accepted with other spaces, and the whole answer is the same
pub spacing_accepted : (a b : List ℕ) (m : Metadata) → unplaced_lexemes a ≡ unplaced_lexemes b → (imported a).metadata ≡ some m → imported b ≡ imported a
unfolding imported
spacing_accepted a b m e h = answer_accepted (text a) (text b) m (spacing_alike a b e) h
