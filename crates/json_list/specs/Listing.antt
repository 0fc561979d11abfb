-- What a reader of a list of updates holds beside the lexeme that it is in, and what a lexeme does to it.
use Rattle.std.specs.Prelude.{ℕ, Bool, false, cond, ◌&&◌, List, eqb, ltb, get_or, set}
use Rattle.records.specs.declared.update.TableUpdate.{TableUpdate}
use Rattle.records.specs.declared.update.UpdateList.{UpdateList}
use Rattle.json_machine.specs.Lexing.{Reading, head_of, is_whole_number}
use Rattle.json_members.specs.Slots.{kind_in}
use Rattle.json_members.specs.Model.{Told, told, After, taking, taking_broken}
use Rattle.json_store.specs.Puts.{Store, store, last_of, put_done}
use Rattle.json_store.specs.Made.{update_made, offer_in, offers_with, offers_end}
use Rattle.json_feed.specs.Feeding.{Sink}

-- the slots of the judge, and what is held of the open update
pub record Work : Type 0 where
  pub slots : List ℕ
  pub held : Store

abbrev pub work : List ℕ → List ℕ → List ℕ → Work
work slots numbers texts = record { slots = slots; held = store numbers texts }

-- with the updates that were closed, and the bytes that they offer, of which there are so many
pub record Listing : Type 0 where
  pub work : Work
  pub list : UpdateList
  pub offered : ℕ
  pub offers : List ℕ

abbrev pub listing : Work → UpdateList → ℕ → List ℕ → Listing
listing w list offered offers = record { work = w; list = list; offered = offered; offers = offers }

-- ---- a whole lexeme

-- what the judge is told of it, and what of that is put
abbrev pub told_of : Reading → Told
told_of r = told r.slots (head_of r.lexer) r.lexer.first r.lexer.text.len (is_whole_number r.lexer) r.lexer.number.magnitude

abbrev pub put_of : Reading → Told
put_of r = told r.slots (head_of r.lexer) 0 r.lexer.text.len false r.lexer.number.magnitude

-- the work behind it, and the spot of what became whole
pub record Worked : Type 0 where
  pub work : Work
  pub done : ℕ

abbrev pub worked_to : Work → ℕ → Worked
worked_to w done = record { work = w; done = done }

abbrev pub putting_of : Told → Store → After → Worked
putting_of t s a = worked_to (record { slots = a.slots; held = put_done a.done t a.slots s }) a.done

abbrev pub putting : Reading → Store → After → Worked
putting r s a = putting_of (put_of r) s a

unfoldable pub worked : Reading → Work → Worked
worked r w = putting r w.held (taking (told_of r) w.slots)

-- ---- an update that is closed

abbrev pub update_spot : ℕ
update_spot = 2

-- its place in the list
abbrev pub place_of : Work → ℕ
place_of w = last_of (get_or w.slots 13 0)

-- an update is closed, and there is room for it
abbrev pub is_stored : ℕ → Work → Bool
is_stored done w = eqb done update_spot && ltb (place_of w) 64

abbrev pub with_item : ℕ → TableUpdate → UpdateList → UpdateList
with_item place u list = record { items = set list.items place u; count = list.count }

abbrev pub made_of : ℕ → Work → TableUpdate
made_of offered w = update_made offered w.slots w.held.numbers w.held.texts

abbrev pub offer_of : Work → List ℕ
offer_of w = offer_in (kind_in w.slots) w.held.numbers w.held.texts

-- it is laid at its place, and what it offers behind what the others offer
unfoldable pub with_update : Listing → Listing
with_update l =
    let w = l.work in
    listing w (with_item (place_of w) (made_of l.offered w) l.list) (offers_end l.offered (offer_of w)) (offers_with l.offered (offer_of w) l.offers)

unfoldable pub storing : ℕ → Listing → Listing
storing done l = cond (is_stored done l.work) (with_update l) l

-- ---- what takes the lexemes

abbrev pub with_work : Work → Listing → Listing
with_work w l = listing w l.list l.offered l.offers

abbrev pub broken_work : ℕ → ℕ → ℕ → Work → Work
broken_work head first place w = record { slots = taking_broken head first place w.slots; held = w.held }

abbrev pub on_whole_in : Reading → Listing → Listing
on_whole_in r l = storing (worked r l.work).done (with_work (worked r l.work).work l)

abbrev pub lists : Sink Listing
lists = record { on_whole = on_whole_in; on_broken = λ head first place l. with_work (broken_work head first place l.work) l }
