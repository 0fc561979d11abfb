-- What the entry points answer, on records with slots: the rules on what is read, laid out. 1 also where an unused place of the metadata is not blank.
use Rattle.std.specs.Prelude.{false, cond, [], map, eqb, ℤ, replicate}
use Rattle.records.specs.declared.metadata.TableMetadata.{TableMetadata}
use Rattle.rules.specs.Capacities.{snapshot_room, ref_room}
use Rattle.rules.specs.Replies.{accepted, start_not_formed}
use Rattle.rules.specs.Register.{Metadata}
use Rattle.rules.specs.Walk.{snapshot_ids}
use Rattle.rules.specs.Blanks.{is_tidy_metadata}
use Rattle.rules.specs.Layout.{pad, read_metadata}
use Rattle.rules.specs.Kinds.{laid_updates}
use Rattle.retention.specs.Retention as plain
use Rattle.retention.specs.Retention.{goes}
use Rattle.retention.specs.Expiry as made
use Rattle.retention.specs.Expiry.{expiry}
use Rattle.retention.specs.Reasons as kept
use Rattle.retention.specs.Reasons.{reason_of}
use Rattle.expiry.specs.declared.Expiry.{Expiry}
use Rattle.expiry.specs.declared.policy.Policy.{Policy}
use Rattle.expiry.specs.declared.policy.Reason.{Reason}
use Rattle.expiry.specs.declared.policy.Reasons.{Reasons}

abbrev pub read_policy : Policy → plain.Policy
read_policy p =
    record {
      clock = p.clock_ms.0;
      min_snapshots = p.min_snapshots.0;
      max_snapshot_age = p.max_snapshot_age_ms.0;
      max_ref_age = p.max_ref_age_ms.0;
      office = p.office;
    }

-- ---- the list

abbrev pub not_formed : made.Expiry
not_formed = record { number = start_not_formed; updates = [] }

-- the rule on what is read
abbrev pub ruled : TableMetadata → Policy → made.Expiry
ruled m p = cond (is_tidy_metadata m) (expiry (read_policy p) (read_metadata m)) not_formed

unfoldable pub laid_expiry : made.Expiry → Expiry
laid_expiry e = record { number = e.number; updates = laid_updates e.updates }

unfoldable pub expiry_answer : TableMetadata → Policy → Expiry
expiry_answer m p = laid_expiry (ruled m p)

-- ---- the reasons

abbrev pub laid_reason : kept.Reason → Reason
laid_reason r = record { why = r.why; by = r.by }

abbrev pub no_reason : Reason
no_reason = record { why = 0; by = 0 }

unfoldable pub no_reasons : Reasons
no_reasons = record { goes = replicate 16 false; stays = replicate 64 no_reason }

unfoldable pub laid_reasons : plain.Policy → Metadata → Reasons
laid_reasons p m =
    record {
      goes = pad ref_room false (map (goes p m.snapshots) m.refs);
      stays = pad snapshot_room no_reason (map (λ (id : ℤ). laid_reason (reason_of p m id)) (snapshot_ids m.snapshots));
    }

-- none where no list is made
unfoldable pub reasons_answer : TableMetadata → Policy → Reasons
reasons_answer m p = cond (eqb (ruled m p).number accepted) (laid_reasons (read_policy p) (read_metadata m)) no_reasons
