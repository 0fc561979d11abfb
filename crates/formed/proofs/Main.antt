-- `main` sought from the first ref on: the answer for all is that for those from an index on, and the first `main` decides it.
use Prim.Native.Nat.{ℕ, ◌+◌, ◌<◌}
use native.Mathlib.Omega.{arith}
use native.Mathlib.Numerals.{add-one}
use mathlib.Core.Path.{◌≡◌, refl, sym, ap, ◌∙◌}
use mathlib.Core.Bool.{Bool, true, false, cond, ◌&&◌}
use mathlib.Core.List.{List, ◌∷◌}
use mathlib.Core.Option.{Option, none, some}
use lib.IntN.{ℤ}
use lib.ListN.{length, get_or, take, drop}
use lib.Seq.{drop-cons, length-take-le, get_or-take}
use Rattle.records.specs.Blanks.{no_ref}
use Rattle.records.specs.declared.reference.NamedRef.{NamedRef}
use Rattle.records.specs.declared.reference.Refs.{Refs}
use Rattle.rules.specs.Words.{eq_z, same_option}
use Rattle.rules.specs.Names.{is_main}
use Rattle.rules.specs.WellFormed.{main_ref, main_snapshot}
use Rattle.rules.specs.Layout.{given, read_ref, read_refs}
use Rattle.rules.specs.Register as plain
use Rattle.tables.specs.Laid.{LaidName, LaidRefs}
use Rattle.formed.proofs.Counted.{read_length}
use Rattle.formed.proofs.Laid.{read_here, laid_name_lem, refs_slots, refs_fit}

-- the current snapshot, where there is one, is what `main` of the refs names
abbrev agrees : Bool → ℤ → List plain.NamedRef → Bool
agrees has id l = same_option eq_z (given has id) (main_snapshot l)

-- what a ref names, where there is one
abbrev named : Option plain.NamedRef → Option ℤ
named o = elim o [ none ↦ none | some r ↦ some r.reference.snapshot ]

module _ (x : plain.NamedRef) (l : List plain.NamedRef) where
  main_here : is_main x.name ≡ true → main_snapshot (x ∷ l) ≡ some x.reference.snapshot
  main_here e = ap (λ (b : Bool). named (cond b (some x) (main_ref l))) e

  main_on : is_main x.name ≡ false → main_snapshot (x ∷ l) ≡ main_snapshot l
  main_on e = ap (λ (b : Bool). named (cond b (some x) (main_ref l))) e

-- a flag and a number against a number that is there
same_some : (has : Bool) (a b : ℤ) → same_option eq_z (given has a) (some b) ≡ (has && eq_z a b)
same_some true a b = refl
same_some false a b = refl

-- the name of a counted ref
pub counted_name : {t : Refs} → LaidRefs t → (i : ℕ) (d : NamedRef) → i < t.count → LaidName (get_or (take t.count t.items) i d).name
counted_name {t} h i d b = rw (get_or-take t.count t.items i d b) (laid_name_lem h i d b)

pub counted_refs : {t : Refs} → LaidRefs t → length (take t.count t.items) ≡ t.count
counted_refs {t} h = length-take-le t.count t.items (omega (arith, refs_slots h, refs_fit h))

-- none of the first i is `main`
pub record Sought (t : Refs) (has : Bool) (id : ℤ) (i : ℕ) : Type 0 where
  pub so : agrees has id (read_refs t) ≡ agrees has id (drop i (read_refs t))

module _ {t : Refs} {has : Bool} {id : ℤ} where
  module _ {i : ℕ} (s : Sought t has id i) where
    module _ (h : LaidRefs t) (d : NamedRef) (b : i < t.count) where
      abbrev here : plain.NamedRef
      here = read_ref (get_or (take t.count t.items) i d)

      rest : drop i (read_refs t) ≡ here ∷ drop (i + 1) (read_refs t)
      rest = drop-cons (read_refs t) i (read_ref d) (omega (arith, read_length read_ref no_ref t.items t.count)) ∙ rw (get_or-take t.count t.items i d b, read_here h i d b, add-one)

      pub sought_on : is_main here.name ≡ false → Sought t has id (i + 1)
      sought_on e = record { so = s.so ∙ rw (rest, main_on here (drop (i + 1) (read_refs t)) e) }

      pub sought_here : {z : Bool} → is_main here.name ≡ true → z ≡ eq_z id here.reference.snapshot → (has && z) ≡ agrees has id (read_refs t)
      sought_here e k = sym (s.so ∙ rw (rest, main_here here (drop (i + 1) (read_refs t)) e, k) (same_some has id here.reference.snapshot))
