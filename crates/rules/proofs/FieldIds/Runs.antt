-- No fresh field id twice: last partition id never falls, every fresh id is above it, and it reaches the ids that were given out; so over any sequence of runs
-- the fresh ids ascend. Where last partition id is at least every field id that is held it stays so, and a fresh id is then the id of no held field.
use Prim.Native.Nat.{ℕ, suc}
use mathlib.Core.Path.{◌≡◌, refl, sym, ap, ◌∙◌, subst}
use mathlib.Core.Bool.{Bool, true, false, not, ◌&&◌, false≢true}
use mathlib.Core.List.{List, [], ◌∷◌, ◌++◌}
use lib.Dec.{eqb}
use lib.IntN.{ℤ}
use lib.Signed.{lt_z}
use borrow.Author.Tests.{not-true}
use borrow.Table.Steps.{cases}
use Rattle.rules.specs.Words.{larger, all, keep, each_pair, is_in, unequal, ascending, put}
use Rattle.rules.specs.Replies.{accepted}
use Rattle.rules.specs.Register.{PartitionField, PartitionSpec, FileEntry, Metadata, Update, Terms, State, Outcome}
use Rattle.rules.specs.Register.Outcome.{Refused, Accepted}
use Rattle.rules.specs.Partitions.{partition_ids}
use Rattle.rules.specs.WellFormed.{spec_below}
use Rattle.rules.specs.SpecUpdates.{fields_of_all, fresh_of, numbered, completed, reaches}
use Rattle.rules.specs.Updates.{update_number, effect}
use Rattle.rules.specs.Close.{closed}
use Rattle.rules.specs.Run.{run_from, started, closing_log, run}
use Rattle.rules.specs.Run.Ran.{Reached}
use Rattle.rules.specs.Rows.{Given, answered_from, end_over}
use Rattle.rules.specs.FieldIds.{fresh_by, fresh_from, fresh_in, fresh_over, last_partition_of, held_field_ids, is_at_most, is_reached}
use Rattle.rules.proofs.Checks.{only_then, both}
use Rattle.rules.proofs.Orders.{numbers_ordered}
use Rattle.rules.proofs.Tables.{all_head, all_tail, all_then, all_append, all_keep, all_put, pairs_head, pairs_tail}
use Rattle.rules.proofs.Replay.Lists.{collect_append}
use Rattle.rules.proofs.Replay.Keys.{in_all}
use Rattle.rules.proofs.Sound.Accepted.{Ends, run_accepted}
use Rattle.rules.proofs.Sound.Run.{not_reached, same_state}
use Rattle.rules.proofs.Fresh.{ids_of, at_most_below, at_most_larger, at_most_larger_second, highest_reaches, fresh_above, fresh_ascend, fresh_given}
use Rattle.rules.proofs.FieldIds.Updates.{SpecView, spec_view, SpecStep, leaves, removes, adds, effect_specs}

-- ---- lists

-- each two of two lists, where each of the one goes with all of the other
pairs_append : {A : Type 0} (r : A → A → Bool) (xs ys : List A) → each_pair r xs ≡ true → each_pair r ys ≡ true → all (λ (x : A). all (r x) ys) xs ≡ true → each_pair r (xs ++ ys) ≡ true
pairs_append {A} r [] ys h k e = k
pairs_append {A} r (x ∷ xs) ys h k e =
    let to : A → Bool = λ z. all (r z) ys in
    both (all_append (r x) xs ys (pairs_head r x xs h) (all_head to x xs e)) (pairs_append r xs ys (pairs_tail r x xs h) k (all_tail to x xs e))

-- ascending numbers are unequal
pub ascending_unequal : (l : List ℤ) → ascending lt_z l ≡ true → unequal l ≡ true
ascending_unequal [] h = refl
ascending_unequal (x ∷ l) h =
    both
    (cases (is_in l x) (λ t. absurd (false≢true (sym (numbers_ordered.irreflexive x) ∙ in_all (lt_z x) l x (pairs_head lt_z x l h) t))) (λ f. ap not f))
    (ascending_unequal l (pairs_tail lt_z x l h))

-- the field ids of specs, where a test holds for each
abbrev OfSpec : (ℤ → Bool) → PartitionSpec → Bool
OfSpec p s = all p (ids_of s.fields)

held_by_spec : (p : ℤ → Bool) (l : List PartitionSpec) → all p (ids_of (fields_of_all l)) ≡ all (OfSpec p) l
held_by_spec p [] = refl
held_by_spec p (s ∷ l) =
    ap (all p) (collect_append (λ (f : PartitionField). f.id) s.fields (fields_of_all l))
    ∙ joined (ids_of s.fields) (ids_of (fields_of_all l))
    ∙ ap (λ (b : Bool). OfSpec p s && b) (held_by_spec p l)
  where
    joined : (a b : List ℤ) → all p (a ++ b) ≡ (all p a && all p b)
    joined [] b = refl
    joined (x ∷ a) b = go (p x) (joined a b)
      where
        go : (t : Bool) → all p (a ++ b) ≡ (all p a && all p b) → (t && all p (a ++ b)) ≡ ((t && all p a) && all p b)
        go true ih = ih
        go false ih = refl

-- ---- a new spec

-- last partition id reaches each of its ids
completed_reached : (last : ℤ) (s : PartitionSpec) → OfSpec (is_at_most (larger last (reaches (completed last s)))) (completed last s) ≡ true
completed_reached last s = go (completed last s).fields
  where
    top : List PartitionField → ℤ
    top fs = larger last (reaches (record { id = s.id; fields = fs }))

    go : (fs : List PartitionField) → all (is_at_most (top fs)) (ids_of fs) ≡ true
    go [] = refl
    go (f ∷ fs) =
        let ids : List ℤ = ids_of (f ∷ fs) in
        all_then (is_at_most (reaches (record { id = s.id; fields = f ∷ fs }))) (is_at_most (top (f ∷ fs))) (at_most_larger_second last (reaches (record { id = s.id; fields = f ∷ fs }))) ids (highest_reaches ids)

-- and so each fresh one
fresh_reached : (last : ℤ) (s : PartitionSpec) → all (is_at_most (larger last (reaches (completed last s)))) (fresh_of last s) ≡ true
unfolding completed
fresh_reached last s =
    let full : List PartitionField = numbered (partition_ids s) last s.fields in
    all_then (is_in (ids_of full)) (is_at_most (larger last (reaches (completed last s)))) (λ z. in_all (is_at_most (larger last (reaches (completed last s)))) (ids_of full) z (completed_reached last s))
    (fresh_of last s) (fresh_given (partition_ids s) last s.fields)

-- ---- from metadata to metadata, with fresh ids given out

pub record GivesOut (m m' : Metadata) (fresh : List ℤ) : Type 0 where
  -- last partition id never falls
  pub stays : lt_z (last_partition_of m') (last_partition_of m) ≡ false
  -- every fresh id is above the one before
  pub above : all (lt_z (last_partition_of m)) fresh ≡ true
  -- and above every earlier fresh id
  pub ascend : ascending lt_z fresh ≡ true
  -- and not above the one after
  pub reached : all (is_at_most (last_partition_of m')) fresh ≡ true
  -- where it is at least every field id that is held, it stays so
  pub reaches : is_reached m ≡ true → is_reached m' ≡ true

gives_none : (m : Metadata) → GivesOut m m []
gives_none m = record { stays = numbers_ordered.irreflexive (last_partition_of m); above = refl; ascend = refl; reached = refl; reaches = λ h. h }

-- one after the other
gives_on : (a b c : Metadata) (xs ys : List ℤ) → GivesOut a b xs → GivesOut b c ys → GivesOut a c (xs ++ ys)
gives_on a b c xs ys p q =
    let la : ℤ = last_partition_of a in
    let lb : ℤ = last_partition_of b in
    let lc : ℤ = last_partition_of c in
    record {
      stays = cases (lt_z lc la) (λ t. absurd (false≢true (sym p.stays ∙ at_most_below lb lc la q.stays t))) (λ f. f);
      above = all_append (lt_z la) xs ys p.above (all_then (lt_z lb) (lt_z la) (λ z. at_most_below la lb z p.stays) ys q.above);
      ascend =
          pairs_append lt_z xs ys p.ascend q.ascend
          (all_then (is_at_most lb) (λ (x : ℤ). all (lt_z x) ys) (λ x h. all_then (lt_z lb) (lt_z x) (λ z. at_most_below x lb z (not-true (lt_z lb x) h)) ys q.above) xs p.reached);
      reached =
          all_append (is_at_most lc) xs ys
          (all_then (is_at_most lb) (is_at_most lc) (λ x h. cases (lt_z lc x) (λ t. absurd (false≢true (sym (not-true (lt_z lb x) h) ∙ at_most_below lb lc x q.stays t))) (λ f. ap not f)) xs p.reached)
          q.reached;
      reaches = λ h. q.reaches (p.reaches h);
    }

-- ---- the updates

-- what is said of states is said of what ids depend on
abbrev is_reached_view : SpecView → Bool
is_reached_view v = all (is_at_most v.last) (ids_of (fields_of_all v.specs))

record GivesOutView (v v' : SpecView) (fresh : List ℤ) : Type 0 where
  stays : lt_z v'.last v.last ≡ false
  above : all (lt_z v.last) fresh ≡ true
  ascend : ascending lt_z fresh ≡ true
  reached : all (is_at_most v'.last) fresh ≡ true
  reaches : is_reached_view v ≡ true → is_reached_view v' ≡ true

view_gives : (a b : State) (fresh : List ℤ) → GivesOutView (spec_view a) (spec_view b) fresh → GivesOut a.metadata b.metadata fresh
unfolding is_reached
view_gives a b fresh g = record { stays = g.stays; above = g.above; ascend = g.ascend; reached = g.reached; reaches = g.reaches }

kept_gives : (v : SpecView) → GivesOutView v v []
kept_gives v = record { stays = numbers_ordered.irreflexive v.last; above = refl; ascend = refl; reached = refl; reaches = λ h. h }

removed_gives : (ids : List ℤ) (v : SpecView) → GivesOutView v (record { specs = keep (λ (s : PartitionSpec). not (is_in ids s.id)) v.specs; last = v.last }) []
removed_gives ids v =
    let p : ℤ → Bool = is_at_most v.last in
    record {
      stays = numbers_ordered.irreflexive v.last;
      above = refl;
      ascend = refl;
      reached = refl;
      reaches = λ h. rw (held_by_spec p (keep (λ (s : PartitionSpec). not (is_in ids s.id)) v.specs)) (all_keep (OfSpec p) (λ (s : PartitionSpec). not (is_in ids s.id)) v.specs (rw (held_by_spec p v.specs) at h));
    }

added_gives : (s : PartitionSpec) (v : SpecView)
    → GivesOutView v (record { specs = put spec_below (completed v.last s) v.specs; last = larger v.last (reaches (completed v.last s)) }) (fresh_of v.last s)
added_gives s v =
    let full : PartitionSpec = completed v.last s in
    let top : ℤ = larger v.last (reaches full) in
    let p : ℤ → Bool = is_at_most v.last in
    record {
      stays = not-true (lt_z top v.last) (at_most_larger v.last (reaches full) v.last (ap not (numbers_ordered.irreflexive v.last)));
      above = fresh_above (partition_ids s) v.last s.fields;
      ascend = fresh_ascend (partition_ids s) v.last s.fields;
      reached = fresh_reached v.last s;
      reaches = λ h.
          rw (held_by_spec (is_at_most top) (put spec_below full v.specs))
          (all_put spec_below (OfSpec (is_at_most top)) full v.specs (completed_reached v.last s)
          (all_then (OfSpec p) (OfSpec (is_at_most top)) (λ (x : PartitionSpec). all_then p (is_at_most top) (at_most_larger v.last (reaches full)) (ids_of x.fields)) v.specs (rw (held_by_spec p v.specs) at h)));
    }

step_gives : (st st' : State) (fresh : List ℤ) → SpecStep st st' fresh → GivesOut st.metadata st'.metadata fresh
step_gives st st' fresh (leaves k) = view_gives st st' [] (rw k (kept_gives (spec_view st)))
step_gives st st' fresh (removes ids k) = view_gives st st' [] (rw k (removed_gives ids (spec_view st)))
step_gives st st' fresh (adds s k) = view_gives st st' _ (rw k (added_gives s (spec_view st)))

pub effect_gives : (terms : Terms) (u : Update) (st : State) → GivesOut st.metadata (effect terms u st).metadata (fresh_by terms u st)
effect_gives terms u st = step_gives st (effect terms u st) (fresh_by terms u st) (effect_specs terms u st)

-- ---- a run

run_gives : (terms : Terms) (us : List Update) (place : ℕ) (st st' : State) → run_from terms us place st ≡ Reached st' → GivesOut st.metadata st'.metadata (fresh_from terms us st)
unfolding run_from fresh_from
run_gives terms [] place st st' e = subst (λ (x : State). GivesOut st.metadata x.metadata []) (same_state st st' e) (gives_none st.metadata)
run_gives terms (u ∷ us) place st st' e =
    let k = only_then (eqb (update_number terms u st) accepted) (not_reached (update_number terms u st) place st') e in
    let next : State = effect terms u st in
    rw k.0 (gives_on st.metadata next.metadata st'.metadata (fresh_by terms u st) (fresh_from terms us next) (effect_gives terms u st) (run_gives terms us (suc place) next st' k.1))

-- the close changes neither specs nor last partition id
closed_gives : (terms : Terms) (log : List Update) (m : Metadata) (st : State) (fresh : List ℤ) → GivesOut m st.metadata fresh → GivesOut m (closed terms log st) fresh
unfolding closed is_reached
closed_gives terms log m st fresh g = record { stays = g.stays; above = g.above; ascend = g.ascend; reached = g.reached; reaches = g.reaches }

pub accepted_gives : (terms : Terms) (m : Metadata) (us : List Update) (m' : Metadata) (log : List Update) (expired : List FileEntry) → run terms m us ≡ Accepted m' log expired → GivesOut m m' (fresh_from terms us (started m))
accepted_gives terms m us m' log expired e =
    let k : Ends terms m' log expired m us = run_accepted terms m' log expired m us e in
    subst (λ (x : Metadata). GivesOut m x (fresh_from terms us (started m))) k.closes.metadata
    (closed_gives terms (closing_log terms k.end) m k.end (fresh_from terms us (started m)) (run_gives terms us 0 (started m) k.end k.reached))

-- ---- a sequence of runs

answered_gives : (g : Given) (m : Metadata) (o : Outcome) → run g.terms m g.updates ≡ o → GivesOut m (answered_from m o) (fresh_in g m o)
answered_gives g m (Refused number place) e = gives_none m
answered_gives g m (Accepted m' log expired) e = accepted_gives g.terms m g.updates m' log expired e

over_gives : (m : Metadata) (gs : List Given) → GivesOut m (end_over m gs) (fresh_over m gs)
unfolding fresh_over end_over
over_gives m [] = gives_none m
over_gives m (g ∷ gs) =
    let o : Outcome = run g.terms m g.updates in
    let next : Metadata = answered_from m o in
    gives_on m next (end_over next gs) (fresh_in g m o) (fresh_over next gs) (answered_gives g m o refl) (over_gives next gs)

-- Over any sequence of runs:
module _ (m : Metadata) (gs : List Given) where
  -- last partition id never falls,
  pub last_partition_stays : lt_z (last_partition_of (end_over m gs)) (last_partition_of m) ≡ false
  last_partition_stays = (over_gives m gs).stays

  -- every fresh id is above the last partition id of the start,
  pub fresh_above_start : all (lt_z (last_partition_of m)) (fresh_over m gs) ≡ true
  fresh_above_start = (over_gives m gs).above

  -- each is above all that were given out before it,
  pub fresh_ascending : ascending lt_z (fresh_over m gs) ≡ true
  fresh_ascending = (over_gives m gs).ascend

  -- so none is given out twice,
  pub fresh_once : unequal (fresh_over m gs) ≡ true
  fresh_once = ascending_unequal (fresh_over m gs) fresh_ascending

  -- and the last partition id of the end is at least each
  pub fresh_by_end : all (is_at_most (last_partition_of (end_over m gs))) (fresh_over m gs) ≡ true
  fresh_by_end = (over_gives m gs).reached

  -- where the start's is at least every field id that it holds, so is the end's
  pub reached_at_end : is_reached m ≡ true → is_reached (end_over m gs) ≡ true
  reached_at_end = (over_gives m gs).reaches

-- ---- while a run goes on

-- from such a start every state of a run is such
pub reached_on : (terms : Terms) (us : List Update) (m : Metadata) (st : State) → is_reached m ≡ true → run_from terms us 0 (started m) ≡ Reached st → is_reached st.metadata ≡ true
reached_on terms us m st h e = (run_gives terms us 0 (started m) st e).reaches h

-- and a fresh id that the next update gives out is the id of no held field
pub fresh_not_held : (terms : Terms) (u : Update) (st : State) → is_reached st.metadata ≡ true → all (λ (id : ℤ). not (is_in (held_field_ids st.metadata) id)) (fresh_by terms u st) ≡ true
unfolding is_reached
fresh_not_held terms u st h =
    let last : ℤ = last_partition_of st.metadata in
    let ids : List ℤ = held_field_ids st.metadata in
    all_then (lt_z last) (λ (id : ℤ). not (is_in ids id))
    (λ id a. cases (is_in ids id) (λ t. absurd (false≢true (sym (ap not a) ∙ in_all (is_at_most last) ids id h t))) (λ f. ap not f))
    (fresh_by terms u st) (effect_gives terms u st).above
