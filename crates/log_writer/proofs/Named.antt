-- An offer that is well formed is carried where its names are UTF-8, and one that is not, is not.
use Prim.Native.Nat.{ℕ}
use mathlib.Core.Path.{◌≡◌, refl, ap, ◌∙◌}
use mathlib.Core.Bool.{Bool, true, false, cond, ◌&&◌}
use mathlib.Core.List.{List}
use mathlib.Core.Option.{none, some}
use Rattle.rules.specs.Words.{some_with}
use Rattle.rules.specs.Register as plain
use Rattle.rules.specs.Register.Update.{AddSchema, AddPartitionSpec}
use Rattle.rules.specs.Offers.{offered_schema, offered_spec}
use Rattle.rules.specs.Layout.{read_schema, read_partition_spec}
use Rattle.rules.proofs.Slots.Reread.{reread_schema, reread_partition_spec}
use Rattle.json_rule.specs.Records.{Sent, SendsSchema, SendsSpec}
use Rattle.file_rule.specs.Export.{schema_texts, spec_texts}
use Rattle.offers.specs.Offered.{Offered, SpecOffered}
use Rattle.offers.specs.declared.OfferedSchema.{OfferedSchema}
use Rattle.offers.specs.declared.OfferedSpec.{OfferedSpec}
use Rattle.log_rule.specs.LogText.{sent_in, sent_texts}

-- an answer that is well formed where the offer is, with a second test beside it
named : {b f n : Bool} (x : Sent) → b ≡ f → (b ≡ true → n ≡ sent_texts x) → (b && n) ≡ some_with sent_texts (cond f (some x) none)
named {b} {f} {n} x e h = rw (← e) (go b h)
  where
    go : (b : Bool) → (b ≡ true → n ≡ sent_texts x) → (b && n) ≡ some_with sent_texts (cond b (some x) none)
    go true k = k refl
    go false k = refl

module _ (offers : List ℕ) (o : plain.SchemaOffer) (r : OfferedSchema) (h : Offered offers o r) where
  -- what is read of it is what is offered
  pub schema_read : r.formed ≡ true → read_schema r.schema ≡ offered_schema offers o
  schema_read e = ap read_schema (h.says e) ∙ reread_schema (offered_schema offers o)

  pub schema_named : {n : Bool} → n ≡ schema_texts (read_schema r.schema) → (r.formed && n) ≡ some_with sent_texts (sent_in offers (AddSchema o))
  unfolding sent_in
  schema_named e = named (SendsSchema (offered_schema offers o)) h.formed (λ f. e ∙ ap schema_texts (schema_read f))

module _ (offers : List ℕ) (o : plain.SpecOffer) (r : OfferedSpec) (h : SpecOffered offers o r) where
  pub spec_read : r.formed ≡ true → read_partition_spec r.spec ≡ offered_spec offers o
  spec_read e = ap read_partition_spec (h.says e) ∙ reread_partition_spec (offered_spec offers o)

  pub spec_named_lem : {n : Bool} → n ≡ spec_texts (read_partition_spec r.spec) → (r.formed && n) ≡ some_with sent_texts (sent_in offers (AddPartitionSpec o))
  unfolding sent_in
  spec_named_lem e = named (SendsSpec (offered_spec offers o)) h.formed (λ f. e ∙ ap spec_texts (spec_read f))
