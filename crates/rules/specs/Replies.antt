-- The numbers of the replies: document 01, "Numbers of the replies", and those that document 02 adds.
use Rattle.std.specs.Prelude.{ℕ}

abbrev pub accepted : ℕ
accepted = 0

-- starting metadata not well formed, current file's name too long, or a walk's lists bad
abbrev pub start_not_formed : ℕ
start_not_formed = 1

abbrev pub list_too_long : ℕ
list_too_long = 2

abbrev pub update_not_formed : ℕ
update_not_formed = 3

abbrev pub version_lowered : ℕ
version_lowered = 4

abbrev pub snapshot_held : ℕ
snapshot_held = 5

abbrev pub sequence_too_low : ℕ
sequence_too_low = 6

abbrev pub before_last_entry : ℕ
before_last_entry = 7

abbrev pub before_last_update : ℕ
before_last_update = 8

abbrev pub first_row_behind : ℕ
first_row_behind = 9

abbrev pub no_row_range : ℕ
no_row_range = 10

abbrev pub rows_overflow : ℕ
rows_overflow = 11

abbrev pub snapshot_not_held : ℕ
snapshot_not_held = 12

abbrev pub commit_on_tag : ℕ
commit_on_tag = 13

abbrev pub nothing_added : ℕ
nothing_added = 14

abbrev pub unknown_id : ℕ
unknown_id = 15

abbrev pub current_schema_removed : ℕ
current_schema_removed = 16

abbrev pub field_not_in_schema : ℕ
field_not_in_schema = 17

abbrev pub ids_exhausted : ℕ
ids_exhausted = 18

abbrev pub table_full : ℕ
table_full = 19

abbrev pub default_order_unfit : ℕ
default_order_unfit = 20

abbrev pub log_ends_elsewhere : ℕ
log_ends_elsewhere = 21

abbrev pub main_disagrees : ℕ
main_disagrees = 22

abbrev pub too_many_files : ℕ
too_many_files = 23

abbrev pub met_twice : ℕ
met_twice = 24

abbrev pub buffer_too_short : ℕ
buffer_too_short = 25

-- document 02, request (v): "a tolerance outside the range"
abbrev pub tolerance_outside : ℕ
tolerance_outside = 26

-- document 02, request (ix): "31 name clash .., redundant field or one field id twice in a spec"
abbrev pub name_clash : ℕ
name_clash = 31

-- "32 source missing or of the wrong type"
abbrev pub source_misfit : ℕ
source_misfit = 32

-- "33 ids not sequential"
abbrev pub ids_not_sequential : ℕ
ids_not_sequential = 33

-- "34 default spec removed"
abbrev pub default_spec_removed : ℕ
default_spec_removed = 34

-- document 02, request (xi): "touching the other's ref, removing a held snapshot that one names or reaches by parents, an update kept for office 1, or office 2
-- removing a snapshot that the snapshot log names"
abbrev pub others_to_change : ℕ
others_to_change = 35

-- "office not 1 or 2"
abbrev pub office_unknown : ℕ
office_unknown = 39
