-- The metadata log at the close: what expires of it, what is left and what joins are the rules'.
use Prim.Native.Nat.{ℕ, ◌+◌, ◌-◌, ◌≤◌}
use native.Mathlib.Omega.{arith}
use mathlib.Core.Path.{◌≡◌, sym, ap, ◌∙◌}
use mathlib.Core.Bool.{Bool, true, false, cond}
use mathlib.Core.List.{List, [], ◌∷◌, ◌++◌, append-nil}
use mathlib.Core.Option.{Option, none, some}
use lib.ListN.{length, take, drop, length-append, length-drop}
use lib.Seq.{take-append-le, drop-append-le}
use Rattle.records.specs.declared.counters.Time.{Time}
use Rattle.records.specs.declared.metadata.MetadataLog.{MetadataLog}
use Rattle.records.specs.declared.run.RunTerms.{RunTerms}
use Rattle.rules.specs.Register.{Metadata, Terms}
use Rattle.rules.specs.Layout.{given, read_text, read_metadata_log}
use Rattle.rules.specs.Limit.{limit_given}
use Rattle.rules.specs.Close.{joined, surplus, staying, expired}
use Rattle.tables.specs.Laid.{LaidMetadataLog}
use Rattle.tables.proofs.Table.{read_length}
use Rattle.tables.proofs.Each.{tidy_metadata_log}
use Rattle.close.specs.Answers.{joining}

-- one more, where one joins
longer : {A : Type 0} (b : Bool) (l : List A) (x : A) → length (l ++ cond b (x ∷ []) []) ≡ cond b (length l + 1) (length l)
longer true l x = length-append l (x ∷ [])
longer false l x = rw append-nil

-- no more expire than the log has, since the limit is at least 1
pub few : (b : Bool) (n k : ℕ) → 1 ≤ k → cond b (n + 1) n - k ≤ n
few true n k h = omega arith
few false n k h = omega arith

-- the metadata log and the terms as the close is handed them
pub record Filed (t : Terms) (m : Metadata) (log : MetadataLog) (terms : RunTerms) (old : Time) (limit : ℕ) : Type 0 where
  pub laid : LaidMetadataLog log
  pub entries : read_metadata_log log ≡ m.metadata_log
  pub name : given terms.has_file (read_text terms.file) ≡ t.file
  pub time : old.0 ≡ m.fields.last_updated
  pub most : limit ≡ limit_given t.limit
  pub least : 1 ≤ limit

module _ {t : Terms} {m : Metadata} {log : MetadataLog} {terms : RunTerms} {old : Time} {limit : ℕ} (q : Filed t m log terms old limit) where
  -- how many entries there are with the one that joins
  abbrev all : ℕ
  all = cond terms.has_file (log.count + 1) log.count

  pub gone_within : all - limit ≤ log.count
  gone_within = few terms.has_file log.count limit q.least

  count_is : length (read_metadata_log log) ≡ log.count
  count_is = read_length (tidy_metadata_log q.laid)

  with_name : {o : Option (List ℕ)} → t.file ≡ o → joined t m ≡ elim o [ none ↦ m.metadata_log | some name ↦ m.metadata_log ++ (record { file = name; time = m.fields.last_updated } ∷ []) ]
  with_name e = rw e

  joined_as : (b : Bool) → given b (read_text terms.file) ≡ t.file → joined t m ≡ read_metadata_log log ++ cond b (record { file = read_text terms.file; time = old.0 } ∷ []) []
  joined_as true e = with_name (sym e) ∙ (λ i. sym q.entries i ++ (record { file = read_text terms.file; time = sym q.time i } ∷ []))
  joined_as false e = with_name (sym e) ∙ sym q.entries ∙ sym (append-nil (read_metadata_log log))

  joined_is : joined t m ≡ read_metadata_log log ++ joining terms old
  joined_is = joined_as terms.has_file q.name

  all_is : length (joined t m) ≡ all
  all_is = ap length joined_is ∙ longer terms.has_file (read_metadata_log log) _ ∙ ap (λ (n : ℕ). cond terms.has_file (n + 1) n) count_is

  surplus_is : surplus t m ≡ all - limit
  surplus_is = rw (all_is, q.most)

  within : all - limit ≤ length (read_metadata_log log)
  within = rw count_is gone_within

  pub stays : staying t m ≡ drop (all - limit) (read_metadata_log log) ++ joining terms old
  unfolding staying
  stays = (λ i. drop (surplus_is i) (joined_is i)) ∙ drop-append-le (all - limit) (read_metadata_log log) (joining terms old) within

  pub expires : expired t m ≡ take (all - limit) (read_metadata_log log)
  unfolding expired
  expires = (λ i. take (surplus_is i) (joined_is i)) ∙ take-append-le (all - limit) (read_metadata_log log) (joining terms old) within

  pub stays_length : length (staying t m) ≡ all - (all - limit)
  unfolding staying
  stays_length = rw (length-drop, all_is, q.most)
