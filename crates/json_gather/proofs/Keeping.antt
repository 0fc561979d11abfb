-- What is stored of a value stays stored where what belongs to its spot stays.
use Prim.Native.Nat.{ℕ, ◌+◌, ◌*◌, ◌≤◌, ◌<◌}
use native.Mathlib.Nat.{add_assoc}
use mathlib.Core.Path.{◌≡◌, refl, sym, ap, ◌∙◌}
use mathlib.Core.Bool.{Bool, true}
use mathlib.Core.List.{List}
use native.Mathlib.Omega.{arith}
use borrow.Author.Tests.{lt-ltb, le-ltb}
use lib.ListN.{length, get_or}
use Rattle.json_rule.specs.Tree.{Json}
use Rattle.json_rule.specs.Shapes.{Kind, Shape, Anything, TextUpTo, OneOf, NumberIn, No, AUuid, ATransform, ListUpTo, ARecord}
use Rattle.json_members.specs.Spots.{row_at, item_at}
use Rattle.json_store.specs.Numbers.{magnitude_at, negative_at, number_at}
use Rattle.json_store.specs.Puts.{part, ids_at}
use Rattle.json_store.proofs.Stores.{same_part, part_at}
use Rattle.json_store.specs.Made.{sort_field_in, partition_id_in}
use Rattle.json_stands.proofs.Open.{Ids, snapshot_ids, schema_ids, spec_ids}
use Rattle.json_gather.proofs.Owners.{owner_of, text_owner, Hand, Agree}
use Rattle.json_gather.proofs.Claims.{NumberStored, ElementHeld, id, field, sort_field, partition_field, ListHeld, no_element, element, room_at, ListStored, ShapeStored}

-- ---- parts of parts

-- so many bytes from a place on, in a longer stretch
pub part_of_part : (p m k n : ℕ) (l : List ℕ) → k + n ≤ m → part (p + k) n l ≡ part k n (part p m l)
part_of_part p m k n l h = same_part (p + k) n l k (part p m l) (λ i g. ap (λ (q : ℕ). get_or l q 0) (add_assoc p k i) ∙ sym (part_at p m l (k + i) (omega arith)))

-- ---- owners

pub owner_below : (i : ℕ) → i < 63 → owner_of i ≡ i
unfolding owner_of
owner_below i h = rw (lt-ltb i 63 h)

-- behind the spots, by where it stands
pub owner_buckets : owner_of 63 ≡ 57
unfolding owner_of
owner_buckets = refl

pub owner_snapshot_ids : (i : ℕ) → i < 16 → owner_of (64 + i) ≡ 24
unfolding owner_of
owner_snapshot_ids i h = rw (le-ltb (64 + i) 63 (omega arith), le-ltb (64 + i) 64 (omega arith), lt-ltb (64 + i) 80 (omega arith))

pub owner_schema_ids : (i : ℕ) → i < 16 → owner_of (80 + i) ≡ 25
unfolding owner_of
owner_schema_ids i h = rw (le-ltb (80 + i) 63 (omega arith), le-ltb (80 + i) 64 (omega arith), le-ltb (80 + i) 80 (omega arith), lt-ltb (80 + i) 96 (omega arith))

pub owner_spec_ids : (i : ℕ) → i < 16 → owner_of (96 + i) ≡ 26
unfolding owner_of
owner_spec_ids i h = rw (le-ltb (96 + i) 63 (omega arith), le-ltb (96 + i) 64 (omega arith), le-ltb (96 + i) 80 (omega arith), le-ltb (96 + i) 96 (omega arith), lt-ltb (96 + i) 112 (omega arith))

pub owner_sorts : (i : ℕ) → i < 24 → owner_of (112 + i) ≡ 46
unfolding owner_of
owner_sorts i h = rw (le-ltb (112 + i) 63 (omega arith), le-ltb (112 + i) 64 (omega arith), le-ltb (112 + i) 80 (omega arith), le-ltb (112 + i) 96 (omega arith), le-ltb (112 + i) 112 (omega arith), lt-ltb (112 + i) 136 (omega arith))

pub owner_partitions : (i : ℕ) → owner_of (136 + i) ≡ 53
unfolding owner_of
owner_partitions i = rw (le-ltb (136 + i) 63 (omega arith), le-ltb (136 + i) 64 (omega arith), le-ltb (136 + i) 80 (omega arith), le-ltb (136 + i) 96 (omega arith), le-ltb (136 + i) 112 (omega arith), le-ltb (136 + i) 136 (omega arith))

pub owner_ids : {v : ℕ} {each : Shape} (i : ℕ) → Ids v each → i < 16 → owner_of (ids_at (item_at v) + i) ≡ item_at v
unfolding item_at ids_at
owner_ids i snapshot_ids h = owner_snapshot_ids i h
owner_ids i schema_ids h = owner_schema_ids i h
owner_ids i spec_ids h = owner_spec_ids i h

-- ---- numbers

pub number_kept : {numbers others : List ℕ} {i : ℕ} {shape : Shape} {x : Json} → magnitude_at others i ≡ magnitude_at numbers i → negative_at others i ≡ negative_at numbers i → NumberStored numbers i shape x → NumberStored others i shape x
number_kept {i = i} {shape = shape} m n s = record { said = rw (m, n) s.said; fits = rw (m, n) s.fits }

pub number_same : (numbers others : List ℕ) (i : ℕ) → magnitude_at others i ≡ magnitude_at numbers i → negative_at others i ≡ negative_at numbers i → number_at others i ≡ number_at numbers i
unfolding number_at
number_same numbers others i m n = rw (m, n)

-- ---- elements

module _ (p : ℕ → Bool) {a b : Hand} (g : Agree p a b) where
  sort_kept : (i : ℕ) → i < 8 → p 46 ≡ true → sort_field_in b.numbers i ≡ sort_field_in a.numbers i
  unfolding sort_field_in
  sort_kept i h e =
      let o : (k : ℕ) → k < 24 → p (owner_of (112 + k)) ≡ true = λ k l. rw (owner_sorts k l) e in
      let s1 : 112 + i * 3 + 1 ≡ 112 + (i * 3 + 1) = omega arith in
      let s2 : 112 + i * 3 + 2 ≡ 112 + (i * 3 + 2) = omega arith in
      rw (
        number_same a.numbers b.numbers (112 + i * 3) (g.magnitude (112 + i * 3) (o (i * 3) (omega arith))) (g.negative (112 + i * 3) (o (i * 3) (omega arith))),
        s1,
        s2,
        g.magnitude (112 + (i * 3 + 1)) (o (i * 3 + 1) (omega arith)),
        g.magnitude (112 + (i * 3 + 2)) (o (i * 3 + 2) (omega arith)),
      )

  partition_kept : (i : ℕ) → i < 8 → p 53 ≡ true → partition_id_in b.numbers i ≡ partition_id_in a.numbers i
  unfolding partition_id_in
  partition_kept i h e =
      let o : (k : ℕ) → p (owner_of (136 + k)) ≡ true = λ k. rw (owner_partitions k) e in
      let s1 : 144 + i ≡ 136 + (8 + i) = omega arith in
      rw (s1, g.magnitude (136 + (8 + i)) (o (8 + i)), number_same a.numbers b.numbers (136 + i) (g.magnitude (136 + i) (o i)) (g.negative (136 + i) (o i)))

  field_kept : (i : ℕ) → i < 32 → p 39 ≡ true → part (179 + i * 38) 38 b.texts ≡ part (179 + i * 38) 38 a.texts
  field_kept i h e =
      part_of_part 179 1216 (i * 38) 38 b.texts (omega arith)
      ∙ (ap (part (i * 38) 38) (g.texts 39 e) ∙ sym (part_of_part 179 1216 (i * 38) 38 a.texts (omega arith)))

  partition_field_kept : (i : ℕ) → i < 8 → p 53 ≡ true → part (1395 + i * 42) 42 b.texts ≡ part (1395 + i * 42) 42 a.texts
  partition_field_kept i h e =
      part_of_part 1395 336 (i * 42) 42 b.texts (omega arith)
      ∙ (ap (part (i * 42) 42) (g.texts 53 e) ∙ sym (part_of_part 1395 336 (i * 42) 42 a.texts (omega arith)))

  pub element_kept : {v i : ℕ} {x : Json} → p (item_at v) ≡ true → i < room_at v → ElementHeld a v i x → ElementHeld b v i x
  unfolding item_at row_at
  element_kept {i = i} e h (id {v = v} {each = each} t s) =
      id t (number_kept (g.magnitude (ids_at (item_at v) + i) (rw (owner_ids i t (few t h)) e)) (g.negative (ids_at (item_at v) + i) (rw (owner_ids i t (few t h)) e)) s)
    where
      few : {v : ℕ} {each : Shape} → Ids v each → i < room_at v → i < 16
      few snapshot_ids h = h
      few schema_ids h = h
      few spec_ids h = h
  element_kept {i = i} e h (field s) = field (field_kept i h e ∙ s)
  element_kept {i = i} e h (sort_field s) = sort_field (sort_kept i h e ∙ s)
  element_kept {i = i} e h (partition_field s t) = partition_field (partition_kept i h e ∙ s) (partition_field_kept i h e ∙ t)

  pub list_held_kept : {v : ℕ} {xs : List Json} → p (item_at v) ≡ true → length xs ≤ room_at v → ListHeld a v xs → ListHeld b v xs
  list_held_kept e h no_element = no_element
  list_held_kept e h (element y l) = element (element_kept e h y) (list_held_kept e (omega arith) l)

  -- ---- whatever has a shape

  list_stored_kept : {v : ℕ} {x : Json} → v < 63 → p v ≡ true → p (item_at v) ≡ true → ListStored a v x → ListStored b v x
  list_stored_kept {v} h e i l =
      record {
        elements = l.elements;
        is = l.is;
        few = l.few;
        kept = g.magnitude v (rw (owner_below v h) e) ∙ l.kept;
        held = list_held_kept i l.few l.held;
      }

  pub shape_kept : (r s : Kind → Json → Type 0) (v : ℕ) (x : Json) (shape : Shape) → v < 58 → p v ≡ true → p (text_owner v) ≡ true → ((room : ℕ) (each : Shape) → shape ≡ ListUpTo room each → p (item_at v) ≡ true)
      → (shape ≡ AUuid → v ≡ 4) → (shape ≡ ATransform → v ≡ 57) → ((kind : Kind) → shape ≡ ARecord kind → r kind x → s kind x) → ShapeStored a r v x shape → ShapeStored b s v x shape
  shape_kept r s v x Anything h e t i u f k c = c
  shape_kept r s v x (TextUpTo room) h e t i u f k c = record { text = c.text; said = c.said; fits = c.fits; kept = g.texts (text_owner v) t ∙ c.kept }
  shape_kept r s v x (OneOf words) h e t i u f k c =
      record {
        word = λ w. let d = c.word w in record { text = d.text; said = d.said; among = d.among; kept = g.magnitude v (rw (owner_below v (omega arith)) e) ∙ d.kept };
        acts = λ z. let q : p 3 ≡ true = ap p (sym z) ∙ e in rw (g.kind q) (c.acts z);
      }
  shape_kept r s v x (NumberIn least most) h e t i u f k c = number_kept (g.magnitude v (rw (owner_below v (omega arith)) e)) (g.negative v (rw (owner_below v (omega arith)) e)) c
  shape_kept r s v x No h e t i u f k c = c
  shape_kept r s v x AUuid h e t i u f k c = let q : p 4 ≡ true = ap p (sym (u refl)) ∙ e in g.texts 4 q ∙ c
  shape_kept r s v x ATransform h e t i u f k c =
      let q : p 57 ≡ true = ap p (sym (f refl)) ∙ e in
      record { text = c.text; said = c.said; formed = c.formed; kind = g.magnitude 57 (rw (owner_below 57 (omega arith)) q) ∙ c.kind; buckets = g.magnitude 63 (bucket q) ∙ c.buckets; sign = g.negative 63 (bucket q) ∙ c.sign }
    where
      bucket : p 57 ≡ true → p (owner_of 63) ≡ true
      bucket q = rw owner_buckets q
  shape_kept r s v x (ListUpTo room each) h e t i u f k c = list_stored_kept (omega arith) e (i room each refl) c
  shape_kept r s v x (ARecord kind) h e t i u f k c = k kind refl c
