-- How many of each there may be, and the largest numbers: document 01, "Capacities and well-formed records".
use Rattle.std.specs.Prelude.{ℕ, ℤ, pos}

abbrev pub snapshot_room : ℕ
snapshot_room = 64

abbrev pub ref_room : ℕ
ref_room = 16

abbrev pub snapshot_log_room : ℕ
snapshot_log_room = 128

abbrev pub metadata_log_room : ℕ
metadata_log_room = 128

abbrev pub schema_room : ℕ
schema_room = 16

abbrev pub schema_field_room : ℕ
schema_field_room = 32

abbrev pub sort_order_room : ℕ
sort_order_room = 16

abbrev pub sort_field_room : ℕ
sort_field_room = 8

-- document 02, request (ix): "16 specs of 8 fields"
abbrev pub spec_room : ℕ
spec_room = 16

abbrev pub partition_field_room : ℕ
partition_field_room = 8

-- document 02, request (ii): "32 records each"
abbrev pub statistics_room : ℕ
statistics_room = 32

abbrev pub removal_room : ℕ
removal_room = 16

abbrev pub name_room : ℕ
name_room = 32

-- the slots of a location, a file name or a path; which of them may be used is said next
abbrev pub text_room : ℕ
text_room = 96

abbrev pub location_room : ℕ
location_room = 96

-- also of a path: document 02, request (ii), "path up to 96 bytes"
abbrev pub file_name_room : ℕ
file_name_room = 96

-- "the sum is at most 64"
abbrev pub list_room : ℕ
list_room = 64

-- the bytes in which a field of a schema is offered
abbrev pub field_bytes : ℕ
field_bytes = 38

-- those in which a field of a partition spec is offered
abbrev pub partition_bytes : ℕ
partition_bytes = 42

-- "2^64 - 1": the largest end of a row range, and the largest number of the limit text
abbrev pub largest_unsigned : ℕ
largest_unsigned = 18446744073709551615

-- "the type's largest": in the Rust schema ids are i32 and sort-order ids i64
abbrev pub largest_schema_id : ℤ
largest_schema_id = pos 2147483647

-- field ids are i32 too
abbrev pub largest_field_id : ℕ
largest_field_id = 2147483647

-- and spec ids
abbrev pub largest_spec_id : ℤ
largest_spec_id = pos 2147483647

abbrev pub largest_sort_order_id : ℤ
largest_sort_order_id = pos 9223372036854775807
