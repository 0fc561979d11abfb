-- The table after a setting and after a removal, as the run has it, is laid out from that of the state after the update.
use mathlib.Core.Path.{◌≡◌, refl, ap, ◌∙◌}
use mathlib.Core.Bool.{Bool, false, cond, not}
use mathlib.Core.List.{List, [], ◌∷◌}
use borrow.Table.Steps.{cases}
use lib.IntN.{ℤ}
use Rattle.records.specs.declared.statistics.StatisticsFiles.{StatisticsFiles}
use Rattle.rules.specs.Words.{any, keep, put}
use Rattle.rules.specs.Register as plain
use Rattle.rules.specs.Register.{StatisticsTable, Update, Terms, State, statistics_of}
use Rattle.rules.specs.Register.StatisticsTable.{Statistics, PartitionStatistics}
use Rattle.rules.specs.Register.Update.{RemoveStatistics}
use Rattle.rules.specs.WellFormed.{statistics_below}
use Rattle.rules.specs.StatisticsUpdates.{is_of, has_file_of, remove_statistics}
use Rattle.rules.specs.Updates.{effect}
use Rattle.rules.specs.Layout.{read_statistics_file, read_statistics, laid_statistics}
use Rattle.rules.proofs.Checks.{neither}
use Rattle.rules.proofs.Slots.Reread.{reread_statistics}
use Rattle.builder.specs.declared.decision.Decision.{Decision}

keep_others : {A : Type 0} (p : A → Bool) (l : List A) → any p l ≡ false → keep (λ x. not (p x)) l ≡ l
keep_others p [] e = refl
keep_others p (x ∷ l) e = let n = neither (p x) (any p l) e in rw (n.0, keep_others p l n.1)

left_is : (which : StatisticsTable) (id : ℤ) (st : State) → keep (λ f. not (is_of id f)) (statistics_of which st.metadata) ≡ statistics_of which (remove_statistics which id st).metadata
unfolding remove_statistics
left_is Statistics id st = cases (has_file_of st.metadata.statistics id) (λ t. rw t) (λ n. rw n (keep_others (is_of id) st.metadata.statistics n))
left_is PartitionStatistics id st = cases (has_file_of st.metadata.partition_statistics id) (λ t. rw t) (λ n. rw n (keep_others (is_of id) st.metadata.partition_statistics n))

module _ (which : StatisticsTable) (st : State) {t : StatisticsFiles} (h : t ≡ laid_statistics (statistics_of which st.metadata)) where
  pub read_statistics_lem : read_statistics t ≡ statistics_of which st.metadata
  read_statistics_lem = ap (λ (x : StatisticsFiles). read_statistics x) h ∙ reread_statistics (statistics_of which st.metadata)

  pub statistics_grown : (d : Decision) {r : StatisticsFiles} {l : List plain.StatisticsFile} → r ≡ cond d.grows (laid_statistics (put statistics_below (read_statistics_file d.entry.statistics.file) (read_statistics t))) t
      → l ≡ cond d.grows (put statistics_below (read_statistics_file d.entry.statistics.file) (statistics_of which st.metadata)) (statistics_of which st.metadata) → r ≡ laid_statistics l
  statistics_grown d q e = q ∙ rw e (cases d.grows (λ y. rw (y, read_statistics_lem)) (λ n. rw n h))

  pub statistics_left : (terms : Terms) (v : Update) (id : ℤ) → v ≡ RemoveStatistics which id → {r : StatisticsFiles} → r ≡ laid_statistics (keep (λ x. not (is_of id x)) (read_statistics t)) → r ≡ laid_statistics (statistics_of which (effect terms v st).metadata)
  unfolding effect
  statistics_left terms v id w q = q ∙ rw (read_statistics_lem, w) (ap laid_statistics (left_is which id st))
