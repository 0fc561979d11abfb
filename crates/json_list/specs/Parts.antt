-- What reading on in a part does: it leads to where all bytes of the part lead, and less is left.
use Rattle.std.specs.Prelude.{ℕ, ◌+◌, ◌-◌, ◌*◌, ◌≤◌, ◌<◌, ◌≡◌, cond, List, eqb, length, drop}
use Rattle.records.specs.declared.update.UpdateList.{UpdateList}
use Rattle.json_machine.specs.Modes.{between_mode}
use Rattle.json_machine.specs.Lexing.{Reading}
use Rattle.json_feed.specs.Feeding.{Fed, fed, fed_all}
use Rattle.json_list.specs.Listing.{Listing, listing, storing, lists}
use Rattle.json_list.specs.Turns.{Turn}

-- how much is left to do: a byte that shows that a number ended before it takes two turns, the first of which leads between lexemes
abbrev pub left : ℕ → ℕ → Reading → ℕ
left len i r = 2 * (len - i) + cond (eqb r.lexer.mode between_mode) 0 1

-- where the bytes of a part lead from a place of it on, where so many bytes came before the part
abbrev pub onward : ℕ → List ℕ → ℕ → Reading → Listing → Fed Listing
onward before part i r l = fed_all lists (before + i) (fed r l) (drop i part)

-- with what is held, and what became whole last
abbrev pub listing_of : Turn → UpdateList → ℕ → List ℕ → Listing
listing_of t list offered offers = storing t.done (listing t.work list offered offers)

-- from one turn to another, whatever updates were closed before
pub record ReadsOn (before : ℕ) (part : List ℕ) (x y : Turn) : Type 0 where
  pub leads : (list : UpdateList) (offered : ℕ) (offers : List ℕ) → onward before part x.place x.reading (listing_of x list offered offers) ≡ onward before part y.place y.reading (listing_of y list offered offers)
  pub less : left (length part) y.place y.reading < left (length part) x.place x.reading

-- behind the plain bytes of a text, in any listing
pub record PastPlain (part : List ℕ) (i : ℕ) (r : Reading) (j : ℕ) (q : Reading) (done : ℕ) : Type 0 where
  pub leads : (before : ℕ) (l : Listing) → onward before part i r l ≡ onward before part j q l
  pub least : left (length part) j q ≤ left (length part) i r
  pub moves : length part ≤ j → left (length part) j q < left (length part) i r
  pub none : done ≡ 0
