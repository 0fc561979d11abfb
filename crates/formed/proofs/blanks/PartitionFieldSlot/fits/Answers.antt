-- A field that is used has 0 behind a flag that is not set. Where it is not used, that is asked once more, of an id that is 0.
use Rattle.std.proofs.Common.{◌≡◌, ◌∙◌, refl, Bool, true, false, not, ◌&&◌, ◌||◌, cond, pos}
use Rattle.rules.specs.Blanks.{is_zero, is_zero_z, is_tidy_name, is_blank_name, is_tidy_partition_field, is_blank_partition_field}
use Rattle.equality.proofs.Derived.{numbers}
use Rattle.formed.proofs.blanks.PartitionFieldSlot.fits.Goals as goal

-- used or not; whether the flag is set, and which of the numbers are 0; whether the name is tidy, and whether it is blank
one_way : (used h source none buckets transform tidy blank : Bool)
    → (((h || none) && (used || ((((source && none) && buckets) && transform) && not h))) && cond used tidy blank) ≡ cond used ((h || none) && tidy) (source && none && buckets && transform && not h && blank)
one_way true true _ _ _ _ _ _ = refl
one_way true false _ true _ _ _ _ = refl
one_way true false _ false _ _ _ _ = refl
one_way false true _ _ _ _ _ _ = refl
one_way false false _ true _ _ _ _ = refl
one_way false false true false _ _ _ _ = refl
one_way false false false false _ _ _ _ = refl

pub returns : goal.returns
unfolding is_tidy_partition_field is_blank_partition_field
returns c =
    let f = c.args.self.now in
    rw (
      c.eq-none.ensures ∙ numbers f.field_id.0 (pos 0),
      c.eq.ensures ∙ numbers f.source_id.0 (pos 0),
      c.eq-2.ensures ∙ numbers f.buckets.0 (pos 0),
      c.name_fits.ensures,
    ) (one_way c.args.is_used f.has_id (is_zero_z f.source_id.0) (is_zero_z f.field_id.0) (is_zero_z f.buckets.0) (is_zero f.transform) (is_tidy_name f.name) (is_blank_name f.name))
