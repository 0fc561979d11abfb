-- Slots that were filled one by one are those in which nothing is left to store.
use Rattle.std.proofs.Common.{◌≡◌, ℕ, ◌≤◌, ◌<◌, List, map, length, replicate, sym, ap, ◌∙◌, arith}
use Rattle.std.proofs.Math.Seq.{sets}
use Rattle.json_store.specs.Made.{each}
use Rattle.json_store.proofs.Each.{each_length}
use Rattle.json_store.proofs.Stores.{sets_done}
use Rattle.json_store.proofs.Ids.{Left}
use Rattle.file_records.specs.Filled.{Fills}
use Rattle.file_records.proofs.Arranged.{each_key}

pub filled : {A B : Type 0} {lay : A → B} {f : ℕ → A} {room : ℕ} {blank : B} {n : ℕ} {Made : ℕ → B → Type 0} {before after : List B} → n ≤ room → before ≡ replicate room blank → Fills Made n before after → ((i : ℕ) (x : B) → i < n → Made i x → x ≡ lay (f i)) → Left lay f room blank n after n
filled {A} {B} {lay} {f} {room} {blank} {n} {Made} {before} {after} h e told is =
    let stored : after ≡ sets (replicate room blank) 0 (map lay (each f n)) = told (λ i. lay (f i)) is ∙ ap (λ (l : List B). sets l 0 (each (λ i. lay (f i)) n)) e ∙ ap (sets (replicate room blank) 0) (each_key lay f n) in
    record {
      most = h;
      below = omega arith;
      stored = sym stored ∙ sym (sets_done after n n (map lay (each f n)) (omega (arith, ap length (sym (each_key lay f n)), each_length (λ i. lay (f i)) n)));
    }
