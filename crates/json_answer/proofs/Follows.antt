-- What a reader holds, against the judge and what was sent: the slots stand for the judge, and, where nothing is refused, the open update is held as its tree says
-- and the list is made of what was sent.
use Prim.Native.Nat.{ℕ, suc, ◌+◌, ◌≤◌}
use native.Mathlib.Omega.{arith}
use mathlib.Core.Path.{◌≡◌, refl, sym, ap, ap₂, subst, ◌∙◌}
use mathlib.Core.Bool.{true, false, true≢false}
use mathlib.Core.List.{List, [], ◌∷◌, ◌++◌}
use mathlib.Core.Option.{Option, none, some}
use borrow.Author.Tests.{ne_eqb, eq-eqb, lt-ltb}
use borrow.Table.Steps.{cases}
use lib.ListN.{length, get_or, length-append}
use lib.Seq.{length-sets}
use Rattle.records.specs.declared.update.TableUpdate.{TableUpdate}
use Rattle.rules.specs.Words.{is_some}
use Rattle.json_rule.specs.Lexemes.{Lexeme}
use Rattle.json_rule.specs.Tree.{Defect, Members, is_scalar}
use Rattle.json_rule.specs.Records.{Sent}
use Rattle.json_rule.specs.Shapes.{Action}
use Rattle.json_machine.specs.Lexing.{Reading, head_of, is_whole_number}
use Rattle.json_judge.specs.Course.{start, Happening, step}
use Rattle.json_judge.specs.Judging.{Judge, take, finished, outcome}
use Rattle.json_judge.specs.Sending.{Sending, sends_all, sent_from}
use Rattle.json_members.specs.Slots.{kind_in, number_in}
use Rattle.json_members.specs.Rows.{action_at}
use Rattle.json_members.specs.Refusing.{sooner_in, refusing, stopping}
use Rattle.json_members.specs.Nesting.{may_begin}
use Rattle.json_members.specs.Model.{Told, told, After, after, taking, taking_broken}
use Rattle.json_store.specs.Puts.{Store, put_done, last_of}
use Rattle.json_store.specs.Made.{offers_with, offers_end, offer_fits}
use Rattle.json_store.specs.Stored.{UpdateHeld}
use Rattle.json_store.proofs.Done.{put_done_told}
use Rattle.json_made.proofs.Listed.{ListMade, list_closed}
use Rattle.json_feed.specs.Feeding.{takes_all}
use Rattle.json_feed.proofs.Fed.{Told as ToldOf}
use Rattle.json_stands.proofs.Laid.{State, laid}
use Rattle.json_stands.proofs.Refused.{RefusalIs, accepted, refused}
use Rattle.json_stands.proofs.Stands.{StandsFor}
use Rattle.json_stands.proofs.Whole.{whole_stands}
use Rattle.json_stands.proofs.Quiet.{all_quiet}
use Rattle.json_stands.proofs.StandsStops.{broken_stands}
use Rattle.json_stands.proofs.Takes.{StandsIn, Takes, whole_took}
use Rattle.json_list.specs.Listing.{Work, Listing, listing, told_of, Worked, worked_to, putting, worked, is_stored, with_item, made_of, offer_of, with_update, storing, with_work, broken_work, on_whole_in}
use Rattle.json_gather.proofs.Gathered.{Gathered}
use Rattle.json_gather.proofs.Steps.{took_gathers}
use Rattle.json_gather.proofs.Sent.{SentBy, nothing_sent, update_sent, sent_by_lem}
use Rattle.json_answer.proofs.Counted.{Counted, CountsOn, same, more, counts_on, live}

-- ---- the judge and the sender

pub record Both : Type 0 where
  pub judge : Judge
  pub sending : Sending

abbrev pub take_both : Both → Lexeme → Both
take_both a t = record { judge = take a.judge t; sending = sends_all (step a.judge.course t).happened a.sending }

abbrev pub both_start : Both
both_start = record { judge = record { course = start; refusal = none }; sending = record { holdings = []; sent = [] } }

pub both_judged : (len : ℕ) (a : Both) (ts : List Lexeme) → outcome len a.judge ts ≡ finished len (takes_all take_both a ts).judge
both_judged len a [] = refl
both_judged len a (t ∷ ts) = both_judged len (take_both a t) ts

pub both_sent : (a : Both) (ts : List Lexeme) → sent_from (record { course = a.judge.course; sending = a.sending }) ts ≡ (takes_all take_both a ts).sending.sent
both_sent a [] = refl
both_sent a (t ∷ ts) = both_sent (take_both a t) ts

-- ---- an update that is stored

-- whatever is stored, the work is the same, and there are as many bytes
pub storing_work : (done : ℕ) (l : Listing) → (storing done l).work ≡ l.work
unfolding storing with_update
storing_work done l = cases (is_stored done l.work) (λ t. rw t) (λ f. rw f)

with_long : (place : ℕ) (bs offers : List ℕ) → length (offers_with place bs offers) ≡ length offers
with_long place bs offers = cases (offer_fits place bs) (λ t. rw t (length-sets offers place bs)) (λ f. rw f)

storing_long : (done : ℕ) (l : Listing) → length (storing done l).offers ≡ length l.offers
unfolding storing with_update
storing_long done l = cases (is_stored done l.work) (λ t. rw t (with_long l.offered (offer_of l.work) l.offers)) (λ f. rw f)

not_stored : (done : ℕ) (l : Listing) → (done ≡ 2 → ⊥) → storing done l ≡ l
unfolding storing
not_stored done l n = rw (ne_eqb done 2 n)

abbrev stored : ℕ → Listing → Listing
stored n l = let w = l.work in listing w (with_item n (made_of l.offered w) l.list) (offers_end l.offered (offer_of w)) (offers_with l.offered (offer_of w) l.offers)

last_one : (count n : ℕ) → count ≡ suc n → last_of count ≡ n
unfolding last_of
last_one count n e = omega arith

is_stored_lem : (done n : ℕ) (l : Listing) → done ≡ 2 → get_or l.work.slots 13 0 ≡ suc n → suc n ≤ 64 → storing done l ≡ stored n l
unfolding storing with_update
is_stored_lem done n l d e h = rw (eq-eqb done 2 d, last_one (get_or l.work.slots 13 0) n e, lt-ltb n 64 h)

-- ---- a broken lexeme

pub none_number : {n p : ℕ} {r : Option Defect} → RefusalIs n p r → r ≡ none → n ≡ 0
none_number accepted e = refl
none_number (refused h) e = absurd (true≢false (ap is_some e))

-- where nothing was refused before and reading had not stopped, the slots say 27
pub stopping_number : (s : State) (place : ℕ) → s.number ≡ 0 → number_in (stopping 27 place (laid s)) ≡ 27
unfolding stopping refusing sooner_in
stopping_number s place e = rw e

broken_number : (s : State) (head first place : ℕ) → s.number ≡ 0 → s.expect ≤ 5 → number_in (taking_broken head first place (laid s)) ≡ 27
unfolding taking_broken
broken_number s head first place e h =
    rw (ne_eqb s.expect 6 (λ x. omega arith))
    (cases (may_begin s.expect head) (λ t. rw t (stopping_number s place e)) (λ f. rw f (stopping_number s first e)))

-- ---- one whole lexeme

-- the slots and the store behind it, by what the judge says of it
work_behind : (r : Reading) (w : Work) (o : Told) (a : After) → told_of r ≡ o → taking (told_of r) w.slots ≡ a → worked r w ≡ worked_to (record { slots = a.slots; held = put_done a.done o a.slots w.held }) a.done
unfolding worked
work_behind r w o a e h =
    ap (λ (x : After). putting r w.held x) h
    ∙ ap (λ (b : Store). worked_to (record { slots = a.slots; held = b }) a.done)
    (sym (put_done_told a.done r.slots (head_of r.lexer) r.lexer.first r.lexer.text.len (is_whole_number r.lexer) r.lexer.number.magnitude a.slots w.held)
    ∙ ap (λ (x : Told). put_done a.done x a.slots w.held) e)

told_so : (r : Reading) (t : Lexeme) → ToldOf r t → told_of r ≡ told r.slots t.head t.first r.lexer.text.len (is_whole_number r.lexer) r.lexer.number.magnitude
told_so r t k = ap₂ (λ (head first : ℕ). told r.slots head first r.lexer.text.len (is_whole_number r.lexer) r.lexer.number.magnitude) k.head k.first

-- the listing with the slots and the store behind it
abbrev listing_behind : State → ℕ → Told → Listing → Listing
listing_behind to done o l = with_work (record { slots = laid to; held = put_done done o (laid to) l.work.held }) l

made_as : {sent sent' : List Sent} {items : List TableUpdate} {count : ℕ} {offers : List ℕ} {end : ℕ} → sent' ≡ sent → ListMade sent items count offers end → ListMade sent' items (length sent') offers end
made_as {sent} {sent'} {items} {offers = offers} {end = end} e m =
    let m' : ListMade sent items (length sent) offers end = subst (λ (n : ℕ). ListMade sent items n offers end) m.counted m in
    subst (λ (l : List Sent). ListMade l items (length l) offers end) (sym e) m'

-- the slots behind it stand for the judge behind it
stands_behind : (l : Listing) (j : Judge) (r : Reading) (t : Lexeme) → t.whole ≡ true → ToldOf r t → StandsFor j l.work.slots → StandsFor (take j t) (on_whole_in r l).work.slots
unfolding worked
stands_behind l j r t whole k s =
    subst (λ (w : Work). StandsFor (take j t) w.slots) (sym (storing_work (worked r l.work).done (with_work (worked r l.work).work l)))
    (subst (λ (o : Told). StandsFor (take j t) (taking o l.work.slots).slots) (sym (told_so r t k)) (whole_stands t whole k.kept s))

-- where nothing is refused
pub record Good (j : Judge) (l : Listing) (x : Sending) : Type 0 where
  pub by : State
  pub laid_so : l.work.slots ≡ laid by
  pub stands : StandsIn j by
  pub gathered : Gathered by l.work.held x.holdings
  pub counted : Counted by (length x.sent)
  pub made : ListMade x.sent l.list.items (length x.sent) l.offers l.offered

pub record Follows (l : Listing) (a : Both) : Type 0 where
  pub stands : StandsFor a.judge l.work.slots
  pub long : length l.offers ≡ 77824
  pub good : a.judge.refusal ≡ none → Good a.judge l a.sending

module _ (j : Judge) (l : Listing) (x : Sending) (to : State) (done : ℕ) (o : Told) (hs : List Happening) (st : StandsIn j to) (g : Gathered to (put_done done o (laid to) l.work.held) (sends_all hs x).holdings) (m : ListMade x.sent l.list.items (length x.sent) l.offers l.offered) where
  abbrev next : Listing
  next = listing_behind to done o l

  -- an update that ends is stored
  update_good : done ≡ 2 → to.held.updates ≡ suc (length x.sent) → suc (length x.sent) ≤ 64 → Counted to (suc (length x.sent)) → (a : Action) (ms : Members) → action_at (kind_in (laid to)) ≡ some a
      → UpdateHeld (laid to) next.work.held.numbers next.work.held.texts (kind_in (laid to)) ms → (sends_all hs x).sent ≡ x.sent ++ a.sends ms ∷ [] → Good j (stored (length x.sent) next) (sends_all hs x)
  update_good d u h c a ms known held sent =
      let count : suc (length x.sent) ≡ length (sends_all hs x).sent = sym (ap length sent ∙ simp length-append (omega arith)) in
      record {
        by = to;
        laid_so = refl;
        stands = st;
        gathered = g;
        counted = subst (λ (n : ℕ). Counted to n) count c;
        made = made_as sent (list_closed x.sent m (omega arith) (laid to) next.work.held.numbers next.work.held.texts a ms known held);
      }

  good_behind : {s : State} → CountsOn s to done (length x.sent) → SentBy to (put_done done o (laid to) l.work.held) done x.sent (sends_all hs x).sent → Good j (storing done next) (sends_all hs x)
  good_behind (same n c) (nothing_sent _ e) =
      subst (λ (k : Listing). Good j k (sends_all hs x)) (sym (not_stored done next n)) (record { by = to; laid_so = refl; stands = st; gathered = g; counted = rw e c; made = rw e m })
  good_behind (same n c) (update_sent d a ms known held sent) = absurd (n d)
  good_behind (more d u h c) (nothing_sent n e) = absurd (n d)
  good_behind (more d u h c) (update_sent _ a ms known held sent) =
      subst (λ (k : Listing). Good j k (sends_all hs x)) (sym (is_stored_lem done (length x.sent) next d u h)) (update_good d u h c a ms known held sent)

module _ (l : Listing) (a : Both) (r : Reading) (t : Lexeme) (whole : t.whole ≡ true) (k : ToldOf r t) where
  good_on : Good a.judge l a.sending → (take a.judge t).refusal ≡ none → Good (take a.judge t) (on_whole_in r l) (take_both a t).sending
  good_on g q =
      let o = told r.slots t.head t.first r.lexer.text.len (is_whole_number r.lexer) r.lexer.number.magnitude in
      let y : Takes a.judge t o g.by = whole_took t whole k.kept g.stands q in
      let fr = g.stands.frames in
      let z = took_gathers g.by l.work.held a.sending g.gathered t k.kept fr.sized y.sized y.took in
      let sent = sent_by_lem g.by l.work.held a.sending g.gathered t o fr.sized fr.passing y.took in
      let b = good_behind (take a.judge t) l a.sending y.to y.done o y.happened y.stands z g.made (counts_on fr g.counted y.took) sent in
      let w = work_behind r l.work o (after (laid y.to) y.done) (told_so r t k) (ap (λ (x : Told). taking x l.work.slots) (told_so r t k) ∙ (ap (taking o) g.laid_so ∙ y.taken)) in
      let e : on_whole_in r l ≡ storing y.done (listing_behind y.to y.done o l) = ap (λ (v : Worked). storing v.done (with_work v.work l)) w in
      subst (λ (x : Listing). Good (take a.judge t) x (take_both a t).sending) (sym e)
      (subst (λ (hs : List Happening). Good (take a.judge t) (storing y.done (listing_behind y.to y.done o l)) (sends_all hs a.sending)) (sym y.happens) b)

  pub whole_follows : Follows l a → Follows (on_whole_in r l) (take_both a t)
  whole_follows f =
      record {
        stands = stands_behind l a.judge r t whole k f.stands;
        long = storing_long (worked r l.work).done (with_work (worked r l.work).work l) ∙ f.long;
        good = λ q. good_on (f.good (all_quiet (step a.judge.course t).happened a.judge.refusal q)) q;
      }

-- ---- a broken lexeme

module _ (l : Listing) (a : Both) (t : Lexeme) (broken : t.whole ≡ false) (i : is_scalar t ≡ true) where
  -- where reading has not stopped it is refused
  broken_refused : Good a.judge l a.sending → a.judge.refusal ≡ none → StandsFor (take a.judge t) (taking_broken t.head t.first t.stop l.work.slots) → (take a.judge t).refusal ≡ none → ⊥
  broken_refused g e st q =
      let n : g.by.number ≡ 0 = none_number g.stands.refusal e in
      let m : number_in (taking_broken t.head t.first t.stop l.work.slots) ≡ 27 = rw g.laid_so (broken_number g.by t.head t.first t.stop n (live g.counted)) in
      let z : number_in (taking_broken t.head t.first t.stop l.work.slots) ≡ 0 = ap number_in st.laid_so ∙ none_number st.stands.refusal q in
      omega arith

  pub broken_follows : Follows l a → Follows (with_work (broken_work t.head t.first t.stop l.work) l) (take_both a t)
  broken_follows f =
      let st = broken_stands t i broken f.stands in
      record {
        stands = st;
        long = f.long;
        good = λ q. let e = all_quiet (step a.judge.course t).happened a.judge.refusal q in absurd (broken_refused (f.good e) e st q);
      }
