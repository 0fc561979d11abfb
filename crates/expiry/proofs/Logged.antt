-- The reasons of what some entries of the snapshot log name, and of one entry more.
use Prim.Native.Nat.{ℕ, ◌≤◌, ◌<◌}
use mathlib.Core.Path.{◌≡◌, sym, ap, ap₂, ◌∙◌}
use mathlib.Core.Bool.{Bool, true, false, cond, ◌&&◌, ◌||◌, or-false}
use mathlib.Core.List.{List, [], ◌∷◌, ◌++◌}
use lib.IntN.{ℤ}
use lib.ListN.{length, set, take}
use lib.Seq.{take_all}
use lib.Signed.{lt_z}
use Rattle.rules.specs.Words.{eq_z, any, ascending}
use Rattle.rules.specs.Register.{LogEntry}
use Rattle.rules.specs.Others.{is_second}
use Rattle.rules.proofs.Checks.{or_right}
use Rattle.rules.proofs.Orders.{numbers_told}
use Rattle.rules.proofs.Replay.Lists.{any_append}
use Rattle.retention.specs.Reasons.{nothing, log_names}
use Rattle.expiry.specs.Answer.{no_reason}
use Rattle.expiry.specs.Found.{slotted, place_in, log_reason}
use Rattle.expiry.specs.declared.policy.Reason.{Reason}
use Rattle.expiry.proofs.Slots.{slotted_set, slotted_same}

-- entries name the snapshot
abbrev names : List LogEntry → ℤ → Bool
names l id = any (λ (e : LogEntry). eq_z e.snapshot id) l

abbrev pub told : List LogEntry → ℤ → Reason
told l id = record { why = cond (names l id) log_names nothing; by = 0 }

-- one entry more
module _ (l : List LogEntry) (e : LogEntry) where
  abbrev longer : List LogEntry
  longer = l ++ (e ∷ [])

  names_more : (id : ℤ) → names longer id ≡ (names l id || eq_z e.snapshot id)
  names_more id = any_append _ l (e ∷ []) ∙ ap (λ (b : Bool). names l id || b) (or-false (eq_z e.snapshot id))

  other : (y : ℤ) → eq_z e.snapshot y ≡ false → told l y ≡ told longer y
  other y n = ap (λ (b : Bool). record { why = cond b log_names nothing; by = 0 }) (sym (names_more y ∙ ap (λ (b : Bool). names l y || b) n ∙ or-false (names l y)))

  itself : record { why = log_names; by = 0 } ≡ told longer e.snapshot
  itself = ap (λ (b : Bool). record { why = cond b log_names nothing; by = 0 }) (sym (names_more e.snapshot ∙ or_right (names l e.snapshot) (numbers_told.itself e.snapshot)))

  module _ (ids : List ℤ) {place : ℕ} (p : place ≡ place_in ids e.snapshot) {stays : List Reason} (h : stays ≡ slotted no_reason (told l) ids) where
    pub held : ascending lt_z ids ≡ true → place < length ids → set stays place (record { why = log_names; by = 0 }) ≡ slotted no_reason (told longer) ids
    held u b = ap₂ (λ (s : List Reason) (r : Reason). set s place r) h itself ∙ slotted_set no_reason (told l) (told longer) ids e.snapshot p other b u

    pub absent : length ids ≤ place → stays ≡ slotted no_reason (told longer) ids
    absent b = h ∙ slotted_same no_reason (told l) (told longer) ids e.snapshot p other b

-- for the second office what all entries name stays, and for the first nothing
module _ (office : ℕ) (l : List LogEntry) (ids : List ℤ) where
  as_asked : {b : Bool} → is_second office ≡ b → slotted no_reason (λ id. record { why = cond (b && names l id) log_names nothing; by = 0 }) ids ≡ slotted no_reason (log_reason office l) ids
  as_asked e = ap (λ (c : Bool). slotted no_reason (λ id. record { why = cond (c && names l id) log_names nothing; by = 0 }) ids) (sym e)

  pub all_named : {i : ℕ} {stays : List Reason} → is_second office ≡ true → length l ≤ i → stays ≡ slotted no_reason (told (take i l)) ids → stays ≡ slotted no_reason (log_reason office l) ids
  all_named {i} e b h = h ∙ ap (λ (k : List LogEntry). slotted no_reason (told k) ids) (take_all i l b) ∙ as_asked e

  pub none_named : {stays : List Reason} → is_second office ≡ false → stays ≡ slotted no_reason (λ id. no_reason) ids → stays ≡ slotted no_reason (log_reason office l) ids
  none_named e h = h ∙ as_asked e
