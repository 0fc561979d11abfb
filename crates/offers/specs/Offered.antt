-- What is answered of an offer of a schema or of a partition spec: whether it is well formed, and what it offers, or the blank where it is not.
-- So two answers to one offer are equal.
use Rattle.std.specs.Prelude.{ℕ, ◌≡◌, true, false, List}
use Rattle.records.specs.Blanks.{no_schema, no_partition_spec}
use Rattle.rules.specs.Register as plain
use Rattle.rules.specs.Offers.{offered_schema, offer_formed, offered_spec, spec_offer_formed}
use Rattle.rules.specs.Layout.{laid_schema, laid_partition_spec}
use Rattle.tables.specs.Laid.{LaidSchema, LaidSpec}
use Rattle.offers.specs.declared.OfferedSchema.{OfferedSchema}
use Rattle.offers.specs.declared.OfferedSpec.{OfferedSpec}

pub record Offered (bytes : List ℕ) (o : plain.SchemaOffer) (r : OfferedSchema) : Type 0 where
  pub formed : r.formed ≡ offer_formed bytes o
  pub says : r.formed ≡ true → r.schema ≡ laid_schema (offered_schema bytes o)
  pub blank : r.formed ≡ false → r.schema ≡ no_schema
  pub laid : LaidSchema r.schema

pub record SpecOffered (bytes : List ℕ) (o : plain.SpecOffer) (r : OfferedSpec) : Type 0 where
  pub formed : r.formed ≡ spec_offer_formed bytes o
  pub says : r.formed ≡ true → r.spec ≡ laid_partition_spec (offered_spec bytes o)
  pub blank : r.formed ≡ false → r.spec ≡ no_partition_spec
  pub laid : LaidSpec r.spec
