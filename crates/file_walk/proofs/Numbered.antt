-- Records by their numbers.
use Prim.Native.Nat.{ℕ, zero, suc, ◌≤◌}
use native.Mathlib.Omega.{arith}
use mathlib.Core.Path.{◌≡◌, refl}
use mathlib.Core.Bool.{true, false}
use mathlib.Core.Option.{none, some}
use lib.Dec.{eqb, leb}
use borrow.Author.Tests.{le-leb}
use Rattle.file_rule.specs.Tables.{FileKind, TheFile, HeldSnapshot, HeldSchema, HeldField, HeldSpec, HeldPartitionField, HeldOrder, HeldSortField, HeldRef, HeldLogEntry, HeldFileEntry, HeldStatistics, HeldPartitionStatistics}
use Rattle.file_rule.specs.FileDefects.{skips_unknown}
use Rattle.file_cells.specs.Wants.{kind_number, kind_at, first_spot}
use Rattle.file_members.specs.Names.{first_of}
use Rattle.file_members.proofs.Numbers.{kind_past}

-- what is known of the record of a number
pub record OfKindAt (kind : ℕ) (k : FileKind) : Type 0 where
  pub is : kind_at kind ≡ some k
  pub number : kind ≡ kind_number k
  pub below : leb 13 kind ≡ false
  pub skips : skips_unknown k ≡ eqb kind 0
  pub first : first_of kind ≡ first_spot k
  pub low : 1 ≤ first_spot k

pub at_kind_lem : (k : FileKind) → OfKindAt (kind_number k) k
unfolding kind_at first_of
at_kind_lem TheFile = record { is = refl; number = refl; below = refl; skips = refl; first = refl; low = omega arith }
at_kind_lem HeldSnapshot = record { is = refl; number = refl; below = refl; skips = refl; first = refl; low = omega arith }
at_kind_lem HeldSchema = record { is = refl; number = refl; below = refl; skips = refl; first = refl; low = omega arith }
at_kind_lem HeldField = record { is = refl; number = refl; below = refl; skips = refl; first = refl; low = omega arith }
at_kind_lem HeldSpec = record { is = refl; number = refl; below = refl; skips = refl; first = refl; low = omega arith }
at_kind_lem HeldPartitionField = record { is = refl; number = refl; below = refl; skips = refl; first = refl; low = omega arith }
at_kind_lem HeldOrder = record { is = refl; number = refl; below = refl; skips = refl; first = refl; low = omega arith }
at_kind_lem HeldSortField = record { is = refl; number = refl; below = refl; skips = refl; first = refl; low = omega arith }
at_kind_lem HeldRef = record { is = refl; number = refl; below = refl; skips = refl; first = refl; low = omega arith }
at_kind_lem HeldLogEntry = record { is = refl; number = refl; below = refl; skips = refl; first = refl; low = omega arith }
at_kind_lem HeldFileEntry = record { is = refl; number = refl; below = refl; skips = refl; first = refl; low = omega arith }
at_kind_lem HeldStatistics = record { is = refl; number = refl; below = refl; skips = refl; first = refl; low = omega arith }
at_kind_lem HeldPartitionStatistics = record { is = refl; number = refl; below = refl; skips = refl; first = refl; low = omega arith }

-- a record, or none
pub by_kind : {P : Type 0} (kind : ℕ) → (kind_at kind ≡ none → leb 13 kind ≡ true → P) → ((k : FileKind) → OfKindAt kind k → P) → P
by_kind zero f g = g TheFile (at_kind_lem TheFile)
by_kind (suc zero) f g = g HeldSnapshot (at_kind_lem HeldSnapshot)
by_kind (suc (suc zero)) f g = g HeldSchema (at_kind_lem HeldSchema)
by_kind (suc (suc (suc zero))) f g = g HeldField (at_kind_lem HeldField)
by_kind (suc (suc (suc (suc zero)))) f g = g HeldSpec (at_kind_lem HeldSpec)
by_kind (suc (suc (suc (suc (suc zero))))) f g = g HeldPartitionField (at_kind_lem HeldPartitionField)
by_kind (suc (suc (suc (suc (suc (suc zero)))))) f g = g HeldOrder (at_kind_lem HeldOrder)
by_kind (suc (suc (suc (suc (suc (suc (suc zero))))))) f g = g HeldSortField (at_kind_lem HeldSortField)
by_kind (suc (suc (suc (suc (suc (suc (suc (suc zero)))))))) f g = g HeldRef (at_kind_lem HeldRef)
by_kind (suc (suc (suc (suc (suc (suc (suc (suc (suc zero))))))))) f g = g HeldLogEntry (at_kind_lem HeldLogEntry)
by_kind (suc (suc (suc (suc (suc (suc (suc (suc (suc (suc zero)))))))))) f g = g HeldFileEntry (at_kind_lem HeldFileEntry)
by_kind (suc (suc (suc (suc (suc (suc (suc (suc (suc (suc (suc zero))))))))))) f g = g HeldStatistics (at_kind_lem HeldStatistics)
by_kind (suc (suc (suc (suc (suc (suc (suc (suc (suc (suc (suc (suc zero)))))))))))) f g = g HeldPartitionStatistics (at_kind_lem HeldPartitionStatistics)
by_kind (suc (suc (suc (suc (suc (suc (suc (suc (suc (suc (suc (suc (suc n))))))))))))) f g = f (kind_past (suc (suc (suc (suc (suc (suc (suc (suc (suc (suc (suc (suc (suc n))))))))))))) (omega arith)) (le-leb 13 (suc (suc (suc (suc (suc (suc (suc (suc (suc (suc (suc (suc (suc n))))))))))))) (omega arith))
