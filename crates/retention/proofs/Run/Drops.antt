-- A run that drops refs one by one: where each is held under its name, is the office's own and is not `main`, each is accepted and logged, and in the end
-- those refs are gone and nothing else is changed.
use Prim.Native.Nat.{ℕ, suc}
use mathlib.Core.Path.{◌≡◌, refl, sym, ap, ap₂, ◌∙◌}
use mathlib.Core.Bool.{Bool, true, false, not, and-false}
use mathlib.Core.List.{List, [], ◌∷◌, ◌++◌, map, append-nil, append_assoc, Memᴰ}
use mathlib.Core.Option.{some}
use borrow.Author.Tests.{eq-eqb}
use Rattle.rules.specs.Words.{any, keep, ascending}
use Rattle.rules.specs.Names.{name_below, is_main}
use Rattle.rules.specs.Register.{NamedRef, Update, Terms, State, with_refs}
use Rattle.rules.specs.Register.Update.{RemoveRef}
use Rattle.rules.specs.WellFormed.{name_formed, ref_below, update_formed}
use Rattle.rules.specs.RefUpdates.{has_name, ref_named, remove_ref}
use Rattle.rules.specs.Others.{is_second, is_others_ref, is_others}
use Rattle.rules.specs.Updates.{offers_formed, checks, update_number, effect}
use Rattle.rules.specs.Run.{Ran, run_from}
use Rattle.rules.proofs.Orders.{names_ordered, names_told_lem}
use Rattle.rules.proofs.Tables.{first_keep, pairs_head, pairs_tail}
use Rattle.rules.proofs.History.Lists.{all_in}
use Rattle.rules.proofs.Replay.Steps.{accepted_if}
use Rattle.retention.proofs.Stay.{fails}
use Rattle.retention.proofs.Run.Lists.{keep_neither, keep_every}

-- the ref has the name of one of these
abbrev pub is_named : List NamedRef → NamedRef → Bool
is_named dropped r = any (λ (d : NamedRef). has_name d.name r) dropped

-- the refs with other names
abbrev pub other_refs : List NamedRef → List NamedRef → List NamedRef
other_refs dropped l = keep (λ r. not (is_named dropped r)) l

-- the state with these refs and this log
abbrev left : List NamedRef → List Update → State → State
left l log st = record { metadata = with_refs l st.metadata; own = st.own; added = st.added; log = log }

abbrev pub drops : List NamedRef → List Update
drops dropped = map (λ (r : NamedRef). RemoveRef r.name) dropped

-- the state without refs of these names, whose removal is logged
abbrev pub after_drops : List NamedRef → State → State
after_drops dropped st = left (other_refs dropped st.metadata.refs) (st.log ++ drops dropped) st

-- a ref that an office may drop: its own, held under its name, and not `main`
pub record Droppable (office : ℕ) (l : List NamedRef) (d : NamedRef) : Type 0 where
  pub formed : name_formed d.name ≡ true
  pub unmain : is_main d.name ≡ false
  pub own : is_others_ref office d ≡ false
  pub found : ref_named d.name l ≡ some d

-- ---- one ref

module _ (terms : Terms) (d : NamedRef) (st : State) (k : Droppable terms.office st.metadata.refs d) where
  drop_accepted : update_number terms (RemoveRef d.name) st ≡ 0
  unfolding update_formed offers_formed is_others checks
  drop_accepted = accepted_if terms (RemoveRef d.name) st k.formed refl (rw (k.unmain, k.found, and-false (is_second terms.office)) k.own) refl

  abbrev next : State
  next = left (keep (λ r. not (has_name d.name r)) st.metadata.refs) (st.log ++ (RemoveRef d.name ∷ [])) st

  drop_effect : effect terms (RemoveRef d.name) st ≡ next
  unfolding effect remove_ref
  drop_effect = rw (k.unmain, k.found)

-- without a ref another is held under its name as before
drop_leaves : (office : ℕ) (l : List NamedRef) (d e : NamedRef) → ref_below d e ≡ true → Droppable office l e → Droppable office (keep (λ r. not (has_name d.name r)) l) e
drop_leaves office l d e b k =
    let other : has_name d.name e ≡ false = fails (has_name d.name e) (λ t. ap (name_below d.name) (sym (names_told_lem.equal e.name d.name t)) ∙ b) (names_ordered.irreflexive d.name) in
    record {
      formed = k.formed;
      unmain = k.unmain;
      own = k.own;
      found = first_keep names_ordered (λ (r : NamedRef). r.name) names_told_lem (λ r. not (has_name d.name r)) e.name e l k.found (ap not other);
    }

-- ---- all of them

-- a run that begins with them goes on where they lead
pub drops_run : (terms : Terms) (dropped : List NamedRef) (us : List Update) (place : ℕ) (st : State) (end : Ran) → ascending ref_below dropped ≡ true → ((d : NamedRef) → Memᴰ d dropped → Droppable terms.office st.metadata.refs d)
    → ((q : ℕ) → run_from terms us q (after_drops dropped st) ≡ end) → run_from terms (drops dropped ++ us) place st ≡ end
unfolding run_from
drops_run terms [] us place st end a k e =
    ap (run_from terms us place) (sym (ap₂ (λ (l : List NamedRef) (log : List Update). left l log st) (keep_every st.metadata.refs) (append-nil st.log))) ∙ e place
drops_run terms (d ∷ dropped) us place st end a k e =
    let here : Droppable terms.office st.metadata.refs d = k d (Memᴰ.head refl) in
    rw (eq-eqb (update_number terms (RemoveRef d.name) st) 0 (drop_accepted terms d st here), drop_effect terms d st here)
    (drops_run terms dropped us (suc place) (next terms d st here) end
    (pairs_tail ref_below d dropped a)
    (λ x i. drop_leaves terms.office st.metadata.refs d x (all_in (ref_below d) dropped (pairs_head ref_below d dropped a) i) (k x (Memᴰ.tail i)))
    (λ q. ap (run_from terms us q)
    (ap₂ (λ (l : List NamedRef) (log : List Update). left l log st) (keep_neither (has_name d.name) (is_named dropped) st.metadata.refs) (append_assoc st.log (RemoveRef d.name ∷ []) (drops dropped)))
    ∙ e q))
