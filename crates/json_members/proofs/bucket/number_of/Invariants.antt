-- What the bytes that are left say behind the number so far is what all of them say.
use Rattle.std.proofs.Common.{◌≡◌, ◌<◌, ◌^◌, drop}
use Rattle.json_members.specs.Kept.{front}
use Rattle.json_members.proofs.Digits.{said_by}
use Rattle.json_members.proofs.bucket.number_of.Given as goal

abbrev pub invariant-loop-byte : goal.invariant-loop-byte
invariant-loop-byte l =
    record {
      small : l.number < 10 ^ l.byte-index;
      said : said_by 0 (front l.digits (drop 7 l.kept)) ≡ said_by l.number (drop l.byte-index (front l.digits (drop 7 l.kept)));
    }
