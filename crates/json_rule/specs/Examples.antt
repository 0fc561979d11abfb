-- Texts and the answers that they must get: document 02, request (vi), both sides of every bound, and the readings that decide where it is silent;
-- docs/RULES.md cites them by the names in their comments. That the rule gives these answers is one statement over the list (`json_examples_hold`, in
-- proofs/Examples). `tools/clauses` changes the rule one clause at a time and says which example then fails.
use Rattle.std.specs.Prelude.{ℕ, zero, suc, Bool, cond, not, List, [], ◌∷◌, ◌++◌, map, eqb, ℤ, pos, negsuc, replicate}
use Prim.Native.String.{String}
use Rattle.std.proofs.Math.Option.{Option, none, some}
use Rattle.rules.specs.Words.{keep}
use Rattle.rules.specs.Register.{RowRange, Snapshot, Reference, SortField, Update}
use Rattle.rules.specs.Register.Update.{AssignUuid, UpgradeFormatVersion, SetLocation, AddSnapshot, RemoveSnapshots, SetRef, RemoveRef, AddSchema, SetCurrentSchema, RemoveSchemas, AddSortOrder, SetDefaultSortOrder, AddPartitionSpec, SetDefaultPartitionSpec, RemovePartitionSpecs}
use Rattle.json_rule.specs.Letters.{bytes}
use Rattle.json_rule.specs.Reading.{Reading, reading}

-- ---- how a text is written here

-- `'` stands for a quotation mark
abbrev pub json : String → List ℕ
json s = map (λ b. cond (eqb b 39) 34 b) (bytes s)

-- `^` is no part of a text: it stands before the place of the answer
abbrev pub is_mark : ℕ → Bool
is_mark b = eqb b 94

abbrev pub unmarked : List ℕ → List ℕ
unmarked bs = keep (λ b. not (is_mark b)) bs

abbrev pub marked_place : List ℕ → ℕ
marked_place [] = 0
marked_place (b ∷ bs) = cond (is_mark b) 0 (suc (marked_place bs))

abbrev pub mark : ℕ
mark = 94

-- a piece so many times
abbrev pub many : ℕ → List ℕ → List ℕ
many zero piece = []
many (suc n) piece = piece ++ many n piece

-- the same with commas between
abbrev pub several : ℕ → List ℕ → List ℕ
several zero piece = []
several (suc n) piece = piece ++ many n (44 ∷ piece)

-- a list of one update: its action, and the members behind that
abbrev pub one : String → String → List ℕ
one action others = json "[{'action':'" ++ json action ++ json "'," ++ json others ++ json "}]"

-- what a snapshot's summary begins with, inside three brackets: it may be any JSON
abbrev pub passed : String → List ℕ
passed s = json "[{'snapshot':{'summary':" ++ json s

-- bytes of a text
abbrev pub in_text : List ℕ → List ℕ
in_text bs = json "[{'location':'" ++ bs

-- a schema's fields up to inside the first
abbrev pub in_field : String → List ℕ
in_field s = json "[{'schema':{'type':'struct','fields':[{" ++ json s

-- an order's
abbrev pub in_sort_field : String → List ℕ
in_sort_field s = json "[{'sort-order':{'fields':[{" ++ json s

-- a spec's
abbrev pub in_partition_field : String → List ℕ
in_partition_field s = json "[{'spec':{'fields':[{" ++ json s

-- a spec of one field with a transform
abbrev pub transformed : String → List ℕ
transformed s = in_partition_field "'transform':" ++ json s

-- whole fields
abbrev pub field : List ℕ
field = json "{'id':1,'name':'a','required':false,'type':'long'}"

abbrev pub sort_field : List ℕ
sort_field = json "{'transform':'identity','source-id':1,'direction':'asc','null-order':'nulls-first'}"

abbrev pub partition_field : List ℕ
partition_field = json "{'source-id':1,'name':'a','transform':'year'}"

-- ---- answers

-- a number at the place of the mark
abbrev pub refusal : ℕ → ℕ → Reading
refusal number place = record { number = number; place = place; updates = []; offers = [] }

-- updates, and the fields that they offer
abbrev pub offers : List Update → List ℕ → ℕ → Reading
offers us bs place = record { number = 0; place = 0; updates = us; offers = bs }

abbrev pub sends : Update → ℕ → Reading
sends u place = offers (u ∷ []) [] place

-- a name in its 32 bytes, behind its length
abbrev pub name_offer : String → ℕ → List ℕ
name_offer name rest = json name ++ replicate rest 0

-- a plain branch or tag of snapshot 1
abbrev pub plain_ref : ℕ → Reference
plain_ref kind = record { snapshot = pos 1; kind = kind; min_snapshots = none; max_snapshot_age = none; max_ref_age = none }

abbrev pub plain_snapshot : Snapshot
plain_snapshot = record { id = pos 1; parent = none; sequence = record { 0 = pos 0 }; time = pos 2; rows = none }

abbrev pub range_from : ℕ → ℕ → Option RowRange
range_from first added = some (record { first = record { 0 = first }; added = added })

-- snapshot 1 with a range of rows
abbrev pub ranged : ℕ → ℕ → Snapshot
ranged first added = record { id = pos 1; parent = none; sequence = record { 0 = pos 0 }; time = pos 2; rows = range_from first added }

abbrev pub sort_by : ℤ → ℕ → ℕ → SortField
sort_by source direction nulls = record { source = source; direction = direction; nulls = nulls }

-- ---- the examples

pub record Example : Type 0 where
  pub asked : List ℕ
  pub reply : Reading

-- what the rule answers
abbrev pub answer_to : List ℕ → Reading
answer_to text = reading text

abbrev pub ◌gives◌ : List ℕ → (ℕ → Reading) → Example
text gives answer = record { asked = unmarked text; reply = answer (marked_place text) }

infix 20 ◌gives◌
abbrev pub examples : List Example
examples =
    -- What is JSON. Most texts stand inside a snapshot's summary, where any JSON may.
    -- no text: 27 at the length, also of spaces alone
    (json "^" gives refusal 27)
    ∷ (json "  ^" gives refusal 27)
    -- no updates: a list without any
    ∷ (json "[]" gives offers [] [])
    -- spaces: JSON's four, around and between lexemes
    ∷ ((32 ∷ 9 ∷ 10 ∷ 13 ∷ []) ++ json "[" ++ (13 ∷ 10 ∷ 9 ∷ 32 ∷ []) ++ json "] " gives offers [] [])
    ∷ (json " [ { 'action' : 'set-current-schema' , 'schema-id' : 1 } ] " gives sends (SetCurrentSchema (pos 1)))
    -- other spaces: the bytes beside those four are none
    ∷ (mark ∷ 8 ∷ json "[]" gives refusal 27)
    ∷ (mark ∷ 11 ∷ json "[]" gives refusal 27)
    ∷ (mark ∷ 12 ∷ json "[]" gives refusal 27)
    ∷ (mark ∷ 14 ∷ json "[]" gives refusal 27)
    ∷ (mark ∷ 31 ∷ json "[]" gives refusal 27)
    ∷ (json "[^!]" gives refusal 27)
    -- byte-order mark: it is not JSON
    ∷ (mark ∷ 239 ∷ 187 ∷ 191 ∷ json "[]" gives refusal 27)
    -- not a list: 28 at its first byte
    ∷ (json "^{'updates':[]}" gives refusal 28)
    ∷ (json " ^12" gives refusal 28)
    ∷ (json "^null" gives refusal 28)
    ∷ (json "^'[]'" gives refusal 28)
    -- no value: a byte with which none begins
    ∷ (json "^x" gives refusal 27)
    ∷ (json "^]" gives refusal 27)
    ∷ (json "^," gives refusal 27)
    ∷ (passed "^:" gives refusal 27)
    ∷ (passed "^}" gives refusal 27)
    ∷ (passed "^/" gives refusal 27)
    -- behind the list: spaces alone
    ∷ (json "[]^x" gives refusal 27)
    ∷ (json "[] ^[]" gives refusal 27)
    ∷ (json "[]^]" gives refusal 27)
    ∷ (json "^{}x" gives refusal 28)
    -- whole: a text counts at its last quotation mark, a literal name at its last letter, a bracket at once
    ∷ (json "[{'action':'zzz^" gives refusal 27)
    ∷ (json "[{'action':^'zzz'" gives refusal 28)
    ∷ (json "[{'action':'\\^" gives refusal 27)
    ∷ (json "[{'action':'\\u00^" gives refusal 27)
    ∷ (json "[{'action':'" ++ (225 ∷ 128 ∷ mark ∷ []) gives refusal 27)
    ∷ (json "[{'foo^" gives refusal 27)
    ∷ (json "[{^'foo'" gives refusal 28)
    ∷ (json "[{^'foo':x" gives refusal 28)
    ∷ (json "[{^'foo' 'x" gives refusal 28)
    ∷ (json "[tru^" gives refusal 27)
    ∷ (json "[tru^x" gives refusal 27)
    ∷ (json "[^true" gives refusal 28)
    ∷ (json "[^[" gives refusal 28)
    ∷ (json "[{'uuid':^{" gives refusal 28)
    ∷ (json "[{'uuid':^[" gives refusal 28)
    -- number at the end: it counts where it may end there
    ∷ (json "[^1" gives refusal 28)
    ∷ (json "[^0" gives refusal 28)
    ∷ (json "[-^" gives refusal 27)
    ∷ (json "[{'schema-id':1^" gives refusal 27)
    ∷ (json "[{'schema-id':1.^" gives refusal 27)
    ∷ (json "[{'schema-id':^1.0" gives refusal 28)
    ∷ (json "[{'schema-id':-^" gives refusal 27)
    ∷ (json "[{'schema-id':1e^" gives refusal 27)
    ∷ (json "[{'schema-id':1e-^" gives refusal 27)
    ∷ (json "[{'schema-id':^1e-5" gives refusal 28)
    -- numbers: of every form
    ∷ (passed "[0,-0,7,-10,123456789,-9,0.5,-0.50,10.125,0e0,0E9,1E5,1e+05,2.5E-3,0.9e100,-0e0]^" gives refusal 27)
    -- no number: 27 at the byte that cannot continue
    ∷ (json "[{'schema-id':0^1}]" gives refusal 27)
    ∷ (json "[{'schema-id':-0^1}]" gives refusal 27)
    ∷ (json "[{'schema-id':^+1}]" gives refusal 27)
    ∷ (json "[{'schema-id':^.5}]" gives refusal 27)
    ∷ (json "[{'schema-id':1.^}]" gives refusal 27)
    ∷ (json "[{'schema-id':^NaN}]" gives refusal 27)
    ∷ (passed "-^}" gives refusal 27)
    ∷ (passed "-^-1" gives refusal 27)
    ∷ (passed "-^.5" gives refusal 27)
    ∷ (passed "0.^e1" gives refusal 27)
    ∷ (passed "1e^}" gives refusal 27)
    ∷ (passed "1e+^-1" gives refusal 27)
    ∷ (passed "1e5^.5" gives refusal 27)
    ∷ (passed "0^x1F" gives refusal 27)
    ∷ (passed "1^/" gives refusal 27)
    ∷ (passed "1^:" gives refusal 27)
    ∷ (passed "1.5^:" gives refusal 27)
    ∷ (passed "1e5^:" gives refusal 27)
    ∷ (passed "-^:" gives refusal 27)
    -- literal names: three, in small letters, whole
    ∷ (passed "[true,false,null]^" gives refusal 27)
    ∷ (passed "nul^x" gives refusal 27)
    ∷ (passed "f^" gives refusal 27)
    ∷ (passed "fals^E" gives refusal 27)
    ∷ (passed "tru^E" gives refusal 27)
    ∷ (passed "null^l" gives refusal 27)
    ∷ (passed "^True" gives refusal 27)
    -- lists and objects: nested and empty
    ∷ (passed "{'a':[{},[]],'b':{'c':{}},'d':[1,[2],{'e':''}]}^" gives refusal 27)
    -- no list: 27 at the lexeme that cannot stand there
    ∷ (passed "[^," gives refusal 27)
    ∷ (passed "[^}" gives refusal 27)
    ∷ (passed "[1,^]" gives refusal 27)
    ∷ (passed "[1,^," gives refusal 27)
    ∷ (passed "[1 ^2" gives refusal 27)
    ∷ (passed "[1 ^'ab" gives refusal 27)
    ∷ (passed "[1^}" gives refusal 27)
    ∷ (passed "[1^:" gives refusal 27)
    -- no object: the same
    ∷ (passed "{^]" gives refusal 27)
    ∷ (passed "{^," gives refusal 27)
    ∷ (passed "{^1" gives refusal 27)
    ∷ (passed "{^null" gives refusal 27)
    ∷ (passed "{^nul" gives refusal 27)
    ∷ (passed "{^{" gives refusal 27)
    ∷ (passed "{'a'^}" gives refusal 27)
    ∷ (passed "{'a'^," gives refusal 27)
    ∷ (passed "{'a' ^'b'" gives refusal 27)
    ∷ (passed "{'a':^}" gives refusal 27)
    ∷ (passed "{'a':^," gives refusal 27)
    ∷ (passed "{'a':1,^}" gives refusal 27)
    ∷ (passed "{'a':1^]" gives refusal 27)
    ∷ (passed "{'a':1^:" gives refusal 27)
    ∷ (passed "{'a':1 ^'b'" gives refusal 27)
    -- cut off: 27 at the length
    ∷ (json "[{'action':'set-current-schema','schema-id':1}^" gives refusal 27)
    ∷ (json "[{'action':'set-current-schema',^" gives refusal 27)
    ∷ (passed "^" gives refusal 27)
    ∷ (passed "[^" gives refusal 27)
    ∷ (passed "[1^" gives refusal 27)
    ∷ (passed "[1,^" gives refusal 27)
    ∷ (passed "{^" gives refusal 27)
    ∷ (passed "{'a^" gives refusal 27)
    ∷ (passed "{'a'^" gives refusal 27)
    ∷ (passed "{'a':^" gives refusal 27)
    ∷ (passed "{'a':1^" gives refusal 27)
    ∷ (passed "{'a':1,^" gives refusal 27)
    -- escapes: the eight short ones, and four hexadecimal digits of either case
    ∷ (passed "'\\'\\\\\\/\\b\\f\\n\\r\\t\\u09AF\\uafFAg'^" gives refusal 27)
    -- no escape: 27 at the byte that cannot continue
    ∷ (passed "'\\^x" gives refusal 27)
    ∷ (passed "'\\^U0041" gives refusal 27)
    ∷ (passed "'\\^0" gives refusal 27)
    ∷ (passed "'\\^" gives refusal 27)
    ∷ (passed "'\\u^" gives refusal 27)
    ∷ (passed "'\\u^/" gives refusal 27)
    ∷ (passed "'\\u0^:" gives refusal 27)
    ∷ (passed "'\\u00^@" gives refusal 27)
    ∷ (passed "'\\u000^G" gives refusal 27)
    ∷ (passed "'\\u000^`" gives refusal 27)
    ∷ (passed "'\\u12^g4" gives refusal 27)
    ∷ (passed "'\\u123^'" gives refusal 27)
    -- control bytes: none in a text; a space and byte 127 are none
    ∷ (in_text (32 ∷ 33 ∷ 126 ∷ 127 ∷ mark ∷ []) gives refusal 27)
    ∷ (in_text (mark ∷ 31 ∷ 97 ∷ []) gives refusal 27)
    ∷ (in_text (mark ∷ 0 ∷ 97 ∷ []) gives refusal 27)
    ∷ (in_text (97 ∷ mark ∷ 10 ∷ 97 ∷ []) gives refusal 27)
    -- UTF-8: the first and the last character of two, three and four bytes that each row of RFC 3629 has
    ∷ (in_text (194 ∷ 128 ∷ 194 ∷ 191 ∷ 223 ∷ 128 ∷ 223 ∷ 191 ∷ mark ∷ []) gives refusal 27)
    ∷ (in_text (224 ∷ 160 ∷ 128 ∷ 224 ∷ 191 ∷ 191 ∷ 225 ∷ 128 ∷ 128 ∷ 236 ∷ 191 ∷ 191 ∷ mark ∷ []) gives refusal 27)
    ∷ (in_text (237 ∷ 128 ∷ 128 ∷ 237 ∷ 159 ∷ 191 ∷ 238 ∷ 128 ∷ 128 ∷ 239 ∷ 191 ∷ 191 ∷ mark ∷ []) gives refusal 27)
    ∷ (in_text (240 ∷ 144 ∷ 128 ∷ 128 ∷ 240 ∷ 191 ∷ 191 ∷ 191 ∷ 241 ∷ 128 ∷ 128 ∷ 128 ∷ mark ∷ []) gives refusal 27)
    ∷ (in_text (243 ∷ 191 ∷ 191 ∷ 191 ∷ 244 ∷ 128 ∷ 128 ∷ 128 ∷ 244 ∷ 143 ∷ 191 ∷ 191 ∷ mark ∷ []) gives refusal 27)
    -- no UTF-8: 27 at the byte that cannot continue; a byte with which no character begins
    ∷ (in_text (mark ∷ 128 ∷ 128 ∷ []) gives refusal 27)
    ∷ (in_text (mark ∷ 191 ∷ 128 ∷ []) gives refusal 27)
    ∷ (in_text (mark ∷ 192 ∷ 128 ∷ []) gives refusal 27)
    ∷ (in_text (mark ∷ 193 ∷ 191 ∷ []) gives refusal 27)
    ∷ (in_text (mark ∷ 245 ∷ 128 ∷ []) gives refusal 27)
    ∷ (in_text (mark ∷ 255 ∷ 128 ∷ []) gives refusal 27)
    -- second byte: below and above what each row has
    ∷ (in_text (194 ∷ mark ∷ 127 ∷ []) gives refusal 27)
    ∷ (in_text (223 ∷ mark ∷ 192 ∷ []) gives refusal 27)
    ∷ (in_text (224 ∷ mark ∷ 159 ∷ []) gives refusal 27)
    ∷ (in_text (224 ∷ mark ∷ 192 ∷ []) gives refusal 27)
    ∷ (in_text (225 ∷ mark ∷ 127 ∷ []) gives refusal 27)
    ∷ (in_text (236 ∷ mark ∷ 192 ∷ []) gives refusal 27)
    ∷ (in_text (237 ∷ mark ∷ 127 ∷ []) gives refusal 27)
    ∷ (in_text (237 ∷ mark ∷ 160 ∷ []) gives refusal 27)
    ∷ (in_text (239 ∷ mark ∷ 192 ∷ []) gives refusal 27)
    ∷ (in_text (240 ∷ mark ∷ 143 ∷ []) gives refusal 27)
    ∷ (in_text (240 ∷ mark ∷ 192 ∷ []) gives refusal 27)
    ∷ (in_text (241 ∷ mark ∷ 127 ∷ []) gives refusal 27)
    ∷ (in_text (243 ∷ mark ∷ 192 ∷ []) gives refusal 27)
    ∷ (in_text (244 ∷ mark ∷ 127 ∷ []) gives refusal 27)
    ∷ (in_text (244 ∷ mark ∷ 144 ∷ []) gives refusal 27)
    -- later bytes: each between 128 and 191; a character that does not end
    ∷ (in_text (224 ∷ 160 ∷ mark ∷ 127 ∷ []) gives refusal 27)
    ∷ (in_text (237 ∷ 159 ∷ mark ∷ 192 ∷ []) gives refusal 27)
    ∷ (in_text (240 ∷ 144 ∷ mark ∷ 127 ∷ []) gives refusal 27)
    ∷ (in_text (244 ∷ 143 ∷ mark ∷ 192 ∷ []) gives refusal 27)
    ∷ (in_text (241 ∷ 128 ∷ 128 ∷ mark ∷ 127 ∷ []) gives refusal 27)
    ∷ (in_text (241 ∷ 128 ∷ 128 ∷ mark ∷ 192 ∷ []) gives refusal 27)
    ∷ (in_text (194 ∷ mark ∷ 34 ∷ []) gives refusal 27)
    ∷ (in_text (225 ∷ 128 ∷ mark ∷ []) gives refusal 27)
    -- names and what is passed over: UTF-8 too
    ∷ (json "[{'" ++ (237 ∷ mark ∷ 160 ∷ []) gives refusal 27)
    ∷ (passed "'" ++ (237 ∷ mark ∷ 160 ∷ []) gives refusal 27)
    -- nested: 16 brackets may be open, with numbers inside the 16th; the 17th is 29, of a list or an object, and what encloses it lacks nothing
    ∷ (passed "" ++ many 13 (json "[") ++ json "1,2^" gives refusal 27)
    ∷ (passed "" ++ many 13 (json "[") ++ json "^[" gives refusal 29)
    ∷ (passed "" ++ many 13 (json "[") ++ json "^{}" gives refusal 29)
    ∷ (passed "" ++ many 13 (json "{'a':") ++ json "'b'^" gives refusal 27)
    ∷ (passed "{'a':1,'b':" ++ many 12 (json "[") ++ json "1^" gives refusal 27)
    ∷ (passed "" ++ many 13 (json "{'a':") ++ json "^[]" gives refusal 29)
    ∷ (passed "" ++ many 12 (json "[") ++ json "[],[]" ++ many 12 (json "]") ++ json "^" gives refusal 27)
    ∷ (json "[^[" ++ many 15 (json "[") gives refusal 28)
    -- What texts and numbers stand for.
    -- decoded: a text is its bytes once its escapes are decoded, as UTF-8
    ∷ (one "set-location" "'location':''" gives sends (SetLocation []))
    ∷ (one "set-location" "'location':'a/~\\'\\\\\\/\\b\\f\\n\\r\\t'" gives sends (SetLocation (97 ∷ 47 ∷ 126 ∷ 34 ∷ 92 ∷ 47 ∷ 8 ∷ 12 ∷ 10 ∷ 13 ∷ 9 ∷ [])))
    ∷ (one "set-location" "'location':'\\u0000\\u007f\\u0080\\u07FF\\u0800\\uffff'"
    gives sends (SetLocation (0 ∷ 127 ∷ 194 ∷ 128 ∷ 223 ∷ 191 ∷ 224 ∷ 160 ∷ 128 ∷ 239 ∷ 191 ∷ 191 ∷ [])))
    ∷ (one "set-location" "'location':'\\u1234\\u9aBc\\uEdF5'" gives sends (SetLocation (225 ∷ 136 ∷ 180 ∷ 233 ∷ 170 ∷ 188 ∷ 238 ∷ 183 ∷ 181 ∷ [])))
    ∷ (in_text (195 ∷ 169 ∷ 240 ∷ 159 ∷ 152 ∷ 128 ∷ []) ++ json "','action':'set-location'}]" gives sends (SetLocation (195 ∷ 169 ∷ 240 ∷ 159 ∷ 152 ∷ 128 ∷ [])))
    -- pairs: two escapes that are one character; what stands beside the halves is a character by itself
    ∷ (one "set-location" "'location':'\\ud800\\udc00\\uDBFF\\uDFFF\\ud83d\\ude00\\ud801\\udc37'"
    gives sends (SetLocation (240 ∷ 144 ∷ 128 ∷ 128 ∷ 244 ∷ 143 ∷ 191 ∷ 191 ∷ 240 ∷ 159 ∷ 152 ∷ 128 ∷ 240 ∷ 144 ∷ 144 ∷ 183 ∷ [])))
    ∷ (one "set-location" "'location':'\\ud7ff\\ue000'" gives sends (SetLocation (237 ∷ 159 ∷ 191 ∷ 238 ∷ 128 ∷ 128 ∷ [])))
    -- half of a pair: it is JSON and has no UTF-8, so it is 28 at a text or a word, an unknown name, and nothing in what is passed over
    ∷ (json "[{'location':^'\\ud800'" gives refusal 28)
    ∷ (json "[{'location':^'\\udbff'" gives refusal 28)
    ∷ (json "[{'location':^'\\udc00'" gives refusal 28)
    ∷ (json "[{'location':^'\\udfff'" gives refusal 28)
    ∷ (json "[{'location':^'\\udc00\\udc00'" gives refusal 28)
    ∷ (json "[{'location':^'\\ud800x'" gives refusal 28)
    ∷ (json "[{'location':^'\\ud800\\n'" gives refusal 28)
    ∷ (json "[{'location':^'\\ud800\\ud800\\udc00'" gives refusal 28)
    ∷ (json "[{'location':^'\\ud800\\udbff'" gives refusal 28)
    ∷ (json "[{'location':^'\\ud800\\ue000'" gives refusal 28)
    ∷ (json "[{'location':^'x\\udc00\\ud800'" gives refusal 28)
    ∷ (json "[{^'\\ud800'" gives refusal 28)
    ∷ (json "[{^'\\ud800':1,'action':'set-current-schema','schema-id':1}]" gives refusal 28)
    ∷ (json "[{'type':^'\\ud800'" gives refusal 28)
    ∷ (json "[{'action':^'\\ud800'" gives refusal 28)
    ∷ (passed "{'\\ud800':'\\udc00'}^" gives refusal 27)
    -- half of a pair in a long text: 28, not 29
    ∷ (json "[{'ref-name':^'\\ud800" ++ many 33 (json "x") ++ json "'" gives refusal 28)
    -- names decoded: names and words are compared after decoding
    ∷ (json "[{'\\u0061ction':'set-\\u006cocation','loc\\u0061tion':'x'}]" gives sends (SetLocation (json "x")))
    ∷ (json "[{'location':'x',^'\\u006cocation':'y'" gives refusal 28)
    -- whole numbers: no fraction, no exponent; `-0` is 0
    ∷ (one "set-current-schema" "'schema-id':-0" gives sends (SetCurrentSchema (pos 0)))
    ∷ (one "set-current-schema" "'schema-id':-1" gives sends (SetCurrentSchema (negsuc 0)))
    ∷ (one "set-current-schema" "'schema-id':1234567890" gives sends (SetCurrentSchema (pos 1234567890)))
    ∷ (json "[{'schema-id':^1e0" gives refusal 28)
    ∷ (json "[{'schema-id':^-1.0" gives refusal 28)
    ∷ (json "[{'schema-id':^'1'" gives refusal 28)
    ∷ (json "[{'schema-id':^null" gives refusal 28)
    ∷ (json "[{'schema-id':^[1]" gives refusal 28)
    -- 32 bits: -2147483648 to 2147483647, in each member that holds such a number
    ∷ (one "set-current-schema" "'schema-id':2147483647" gives sends (SetCurrentSchema (pos 2147483647)))
    ∷ (one "set-current-schema" "'schema-id':-2147483648" gives sends (SetCurrentSchema (negsuc 2147483647)))
    ∷ (json "[{'schema-id':^2147483648" gives refusal 28)
    ∷ (json "[{'schema-id':^-2147483649" gives refusal 28)
    ∷ (json "[{'min-snapshots-to-keep':^2147483648" gives refusal 28)
    ∷ (json "[{'last-column-id':^2147483648" gives refusal 28)
    ∷ (json "[{'schema-ids':[^2147483648" gives refusal 28)
    ∷ (json "[{'spec-id':^2147483648" gives refusal 28)
    ∷ (json "[{'spec-ids':[^2147483648" gives refusal 28)
    ∷ (json "[{'schema':{'schema-id':^2147483648" gives refusal 28)
    ∷ (in_field "'id':^2147483648" gives refusal 28)
    ∷ (in_sort_field "'source-id':^2147483648" gives refusal 28)
    ∷ (json "[{'spec':{'spec-id':^2147483648" gives refusal 28)
    ∷ (in_partition_field "'source-id':^2147483648" gives refusal 28)
    ∷ (in_partition_field "'field-id':^2147483648" gives refusal 28)
    -- 64 bits: -9223372036854775808 to 9223372036854775807
    ∷ (one "remove-snapshots" "'snapshot-ids':[-9223372036854775808,9223372036854775807]"
    gives sends (RemoveSnapshots (negsuc 9223372036854775807 ∷ pos 9223372036854775807 ∷ [])))
    ∷ (json "[{'snapshot-ids':[^9223372036854775808" gives refusal 28)
    ∷ (json "[{'snapshot-ids':[^-9223372036854775809" gives refusal 28)
    ∷ (json "[{'snapshot-id':^9223372036854775808" gives refusal 28)
    ∷ (json "[{'max-snapshot-age-ms':^9223372036854775808" gives refusal 28)
    ∷ (json "[{'max-ref-age-ms':^9223372036854775808" gives refusal 28)
    ∷ (json "[{'sort-order-id':^9223372036854775808" gives refusal 28)
    ∷ (json "[{'sort-order':{'order-id':^9223372036854775808" gives refusal 28)
    ∷ (json "[{'snapshot':{'snapshot-id':^9223372036854775808" gives refusal 28)
    ∷ (json "[{'snapshot':{'timestamp-ms':^9223372036854775808" gives refusal 28)
    ∷ (json "[{'snapshot':{'parent-snapshot-id':^9223372036854775808" gives refusal 28)
    ∷ (json "[{'snapshot':{'sequence-number':^9223372036854775808" gives refusal 28)
    -- row ids: 0 to 18446744073709551615
    ∷ (one "add-snapshot" "'snapshot':{'snapshot-id':1,'timestamp-ms':2,'first-row-id':18446744073709551615,'added-rows':-0}"
    gives sends (AddSnapshot (ranged 18446744073709551615 0)))
    ∷ (one "add-snapshot" "'snapshot':{'added-rows':18446744073709551615,'first-row-id':0,'timestamp-ms':2,'snapshot-id':1}"
    gives sends (AddSnapshot (ranged 0 18446744073709551615)))
    ∷ (json "[{'snapshot':{'first-row-id':^18446744073709551616" gives refusal 28)
    ∷ (json "[{'snapshot':{'first-row-id':^-1" gives refusal 28)
    ∷ (json "[{'snapshot':{'added-rows':^18446744073709551616" gives refusal 28)
    ∷ (json "[{'snapshot':{'added-rows':^-1" gives refusal 28)
    -- version: 0 to 255
    ∷ (one "upgrade-format-version" "'format-version':255" gives sends (UpgradeFormatVersion 255))
    ∷ (one "upgrade-format-version" "'format-version':0" gives sends (UpgradeFormatVersion 0))
    ∷ (json "[{'format-version':^256" gives refusal 28)
    ∷ (json "[{'format-version':^-1" gives refusal 28)
    -- as it is: what is of the right type and not well formed is read, and left to the run
    ∷ (one "remove-snapshots" "'snapshot-ids':[-5,-5]" gives sends (RemoveSnapshots (negsuc 4 ∷ negsuc 4 ∷ [])))
    ∷ (one "upgrade-format-version" "'format-version':4" gives sends (UpgradeFormatVersion 4))
    ∷ (json "[{'min-snapshots-to-keep':0^" gives refusal 27)
    -- Capacities: 29 at the first byte.
    -- names: 32 bytes, counted after decoding
    ∷ (json "[{'action':'remove-snapshot-ref','ref-name':'" ++ many 32 (json "x") ++ json "'}]" gives sends (RemoveRef (replicate 32 120)))
    ∷ (json "[{'ref-name':^'" ++ many 33 (json "x") ++ json "'" gives refusal 29)
    ∷ (json "[{'ref-name':'" ++ many 32 (json "\\n") ++ json "'^" gives refusal 27)
    ∷ (json "[{'ref-name':'" ++ many 16 (195 ∷ 169 ∷ []) ++ json "'^" gives refusal 27)
    ∷ (json "[{'ref-name':^'" ++ many 17 (195 ∷ 169 ∷ []) ++ json "'" gives refusal 29)
    ∷ (json "[{'ref-name':^'" ++ many 11 (json "\\u0800") ++ json "'" gives refusal 29)
    ∷ (in_field "'name':'" ++ many 32 (json "x") ++ json "'^" gives refusal 27)
    ∷ (in_field "'name':^'" ++ many 33 (json "x") ++ json "'" gives refusal 29)
    ∷ (in_partition_field "'name':'" ++ many 32 (json "x") ++ json "'^" gives refusal 27)
    ∷ (in_partition_field "'name':^'" ++ many 33 (json "x") ++ json "'" gives refusal 29)
    -- location: 96 bytes
    ∷ (json "[{'action':'set-location','location':'" ++ many 96 (json "x") ++ json "'}]" gives sends (SetLocation (replicate 96 120)))
    ∷ (json "[{'location':^'" ++ many 97 (json "x") ++ json "'" gives refusal 29)
    -- removal lists: 16, and 29 at the bracket once the 17th is whole
    ∷ (json "[{'action':'remove-snapshots','snapshot-ids':[" ++ several 16 (json "7") ++ json "]}]" gives sends (RemoveSnapshots (replicate 16 (pos 7))))
    ∷ (json "[{'snapshot-ids':[" ++ several 16 (json "7") ++ json ",^" gives refusal 27)
    ∷ (json "[{'snapshot-ids':^[" ++ several 17 (json "7") gives refusal 29)
    ∷ (json "[{'schema-ids':[" ++ several 16 (json "7") ++ json "]^" gives refusal 27)
    ∷ (json "[{'schema-ids':^[" ++ several 17 (json "7") gives refusal 29)
    ∷ (json "[{'spec-ids':[" ++ several 16 (json "7") ++ json "]^" gives refusal 27)
    ∷ (json "[{'spec-ids':^[" ++ several 17 (json "7") gives refusal 29)
    -- fields: 32 of a schema, 8 of an order, 8 of a spec; 29 once one more is opened
    ∷ (json "[{'schema':{'fields':[" ++ several 32 field ++ json "]^" gives refusal 27)
    ∷ (json "[{'schema':{'fields':^[" ++ several 32 field ++ json ",{" gives refusal 29)
    ∷ (json "[{'sort-order':{'fields':[" ++ several 8 sort_field ++ json "]^" gives refusal 27)
    ∷ (json "[{'sort-order':{'fields':^[" ++ several 8 sort_field ++ json ",{" gives refusal 29)
    ∷ (json "[{'spec':{'fields':[" ++ several 8 partition_field ++ json "]^" gives refusal 27)
    ∷ (json "[{'spec':{'fields':^[" ++ several 8 partition_field ++ json ",{" gives refusal 29)
    -- past the capacity: what stands there is still judged, as it may refuse what encloses the list
    ∷ (json "[{'schema':^{'fields':[" ++ several 32 field ++ json ",{'type':'int'" gives refusal 28)
    -- 65 updates: 29 at the list's bracket
    ∷ (json "[" ++ several 64 (json "{'action':'remove-schemas','schema-ids':[]}") ++ json "]" gives offers (replicate 64 (RemoveSchemas [])) [])
    ∷ (json "[^" ++ several 64 (json "{}") ++ json "]" gives refusal 28)
    ∷ (json " ^[" ++ several 65 (json "{}") ++ json "]" gives refusal 29)
    -- The actions: each with its members, in any order.
    -- assign-uuid: 32 hexadecimal digits of either case, and four hyphens
    ∷ (one "assign-uuid" "'uuid':'00112233-4455-6677-8899-aabbccddeeff'"
    gives sends (AssignUuid (0 ∷ 17 ∷ 34 ∷ 51 ∷ 68 ∷ 85 ∷ 102 ∷ 119 ∷ 136 ∷ 153 ∷ 170 ∷ 187 ∷ 204 ∷ 221 ∷ 238 ∷ 255 ∷ [])))
    ∷ (json "[{'uuid':'F0E1D2C3-B4A5-9687-7869-5A4B3C2D1E0F','action':'assign-uuid'}]"
    gives sends (AssignUuid (240 ∷ 225 ∷ 210 ∷ 195 ∷ 180 ∷ 165 ∷ 150 ∷ 135 ∷ 120 ∷ 105 ∷ 90 ∷ 75 ∷ 60 ∷ 45 ∷ 30 ∷ 15 ∷ [])))
    -- no uuid: 28
    ∷ (json "[{'uuid':^''" gives refusal 28)
    ∷ (json "[{'uuid':^5" gives refusal 28)
    ∷ (json "[{'uuid':^'00112233445566778899aabbccddeeff'" gives refusal 28)
    ∷ (json "[{'uuid':^'{00112233-4455-6677-8899-aabbccddeeff}'" gives refusal 28)
    ∷ (json "[{'uuid':^'00112233-4455-6677-8899-aabbccddeef'" gives refusal 28)
    ∷ (json "[{'uuid':^'00112233-4455-6677-8899-aabbccddeeff0'" gives refusal 28)
    ∷ (json "[{'uuid':^'00112233-4455-6677-8899-aabbccddeefg'" gives refusal 28)
    ∷ (json "[{'uuid':^'0011223g-4455-6677-8899-aabbccddeeff'" gives refusal 28)
    ∷ (json "[{'uuid':^'0011223-34455-6677-8899-aabbccddeeff'" gives refusal 28)
    ∷ (json "[{'uuid':^'00112233_4455-6677-8899-aabbccddeeff'" gives refusal 28)
    ∷ (json "[{'uuid':^'00112233-4455-6677-8899'" gives refusal 28)
    -- upgrade-format-version: a number
    ∷ (one "upgrade-format-version" "'format-version':2" gives sends (UpgradeFormatVersion 2))
    ∷ (json "[{'format-version':^'2'" gives refusal 28)
    -- set-location: a text
    ∷ (one "set-location" "'location':'s3://a'" gives sends (SetLocation (json "s3://a")))
    ∷ (json "[{'location':^5" gives refusal 28)
    ∷ (json "[{'location':^{" gives refusal 28)
    -- add-snapshot: with what is required alone, and with all
    ∷ (one "add-snapshot" "'snapshot':{'snapshot-id':1,'timestamp-ms':2}" gives sends (AddSnapshot plain_snapshot))
    ∷ (one "add-snapshot" "'snapshot':{'snapshot-id':3000000001,'parent-snapshot-id':3000000002,'sequence-number':3000000003,'timestamp-ms':3000000004,'first-row-id':5,'added-rows':6,'manifest-list':'m','summary':{},'schema-id':0}"
    gives sends (AddSnapshot (record { id = pos 3000000001; parent = some (pos 3000000002); sequence = record { 0 = pos 3000000003 }; time = pos 3000000004; rows = range_from 5 6 })))
    ∷ (json "[{'snapshot':^5" gives refusal 28)
    -- passed over: any JSON, and names may repeat inside
    ∷ (one "add-snapshot" "'snapshot':{'snapshot-id':1,'timestamp-ms':2,'manifest-list':null,'summary':{'a':1,'a':[2],'action':{}},'schema-id':[1.5,true]}" gives sends (AddSnapshot plain_snapshot))
    ∷ (one "add-snapshot" "'snapshot':{'snapshot-id':1,'timestamp-ms':2,'manifest-list':{},'summary':'s','schema-id':'x'}" gives sends (AddSnapshot plain_snapshot))
    ∷ (passed "{},^'summary':{}" gives refusal 28)
    -- remove-snapshots: a list of numbers
    ∷ (one "remove-snapshots" "'snapshot-ids':[]" gives sends (RemoveSnapshots []))
    ∷ (one "remove-snapshots" "'snapshot-ids':[3,1,3000000000]" gives sends (RemoveSnapshots (pos 3 ∷ pos 1 ∷ pos 3000000000 ∷ [])))
    ∷ (json "[{'snapshot-ids':^5" gives refusal 28)
    ∷ (json "[{'snapshot-ids':^{" gives refusal 28)
    ∷ (json "[{'snapshot-ids':[1,^'2'" gives refusal 28)
    ∷ (json "[{'snapshot-ids':[1,^[" gives refusal 28)
    -- set-snapshot-ref: a branch or a tag, with what is required alone, and with each of the others
    ∷ (one "set-snapshot-ref" "'ref-name':'main','type':'branch','snapshot-id':1" gives sends (SetRef (json "main") (plain_ref 1)))
    ∷ (one "set-snapshot-ref" "'snapshot-id':1,'type':'tag','ref-name':''" gives sends (SetRef [] (plain_ref 2)))
    ∷ (one "set-snapshot-ref" "'ref-name':'a','type':'tag','snapshot-id':3000000001,'min-snapshots-to-keep':4,'max-snapshot-age-ms':3000000005,'max-ref-age-ms':3000000006"
    gives sends (SetRef (json "a") (record { snapshot = pos 3000000001; kind = 2; min_snapshots = some (pos 4); max_snapshot_age = some (pos 3000000005); max_ref_age = some (pos 3000000006) })))
    ∷ (json "[{'ref-name':^5" gives refusal 28)
    ∷ (json "[{'type':^'Branch'" gives refusal 28)
    ∷ (json "[{'type':^'branches'" gives refusal 28)
    ∷ (json "[{'type':^5" gives refusal 28)
    ∷ (json "[{'snapshot-id':^'1'" gives refusal 28)
    ∷ (json "[{'min-snapshots-to-keep':^'1'" gives refusal 28)
    ∷ (json "[{'max-snapshot-age-ms':^'1'" gives refusal 28)
    ∷ (json "[{'max-ref-age-ms':^'1'" gives refusal 28)
    -- null: it is 28 for an optional member too
    ∷ (json "[{'min-snapshots-to-keep':^null" gives refusal 28)
    ∷ (json "[{'snapshot':{'parent-snapshot-id':^null" gives refusal 28)
    -- remove-snapshot-ref: a name
    ∷ (one "remove-snapshot-ref" "'ref-name':'audit'" gives sends (RemoveRef (json "audit")))
    -- add-schema: the last column id is checked, and not used
    ∷ (one "add-schema" "'schema':{'type':'struct','fields':[]}" gives offers (AddSchema (record { id = pos 0; at = 0; count = 0 }) ∷ []) [])
    ∷ (one "add-schema" "'last-column-id':9,'schema':{'type':'struct','schema-id':3,'fields':[]}" gives offers (AddSchema (record { id = pos 3; at = 0; count = 0 }) ∷ []) [])
    ∷ (one "add-schema" "'schema':{'fields':[{'id':16909060,'name':'ab','required':false,'type':'long'},{'type':'timestamp','required':false,'name':'','id':-2}],'type':'struct'}"
    gives offers (AddSchema (record { id = pos 0; at = 0; count = 2 }) ∷ []) ((4 ∷ 3 ∷ 2 ∷ 1 ∷ 1 ∷ 2 ∷ []) ++ name_offer "ab" 30 ++ (254 ∷ 255 ∷ 255 ∷ 255 ∷ 2 ∷ 0 ∷ []) ++ name_offer "" 32))
    ∷ (json "[{'last-column-id':^'9'" gives refusal 28)
    ∷ (json "[{'schema':^[" gives refusal 28)
    ∷ (json "[{'schema':{'type':^'list'" gives refusal 28)
    ∷ (json "[{'schema':{'type':^5" gives refusal 28)
    ∷ (json "[{'schema':{'schema-id':^'1'" gives refusal 28)
    ∷ (json "[{'schema':{'fields':^5" gives refusal 28)
    ∷ (json "[{'schema':{'fields':[^5" gives refusal 28)
    -- set-current-schema: a number
    ∷ (one "set-current-schema" "'schema-id':5" gives sends (SetCurrentSchema (pos 5)))
    -- remove-schemas: a list of numbers
    ∷ (one "remove-schemas" "'schema-ids':[0,-2147483648]" gives sends (RemoveSchemas (pos 0 ∷ negsuc 2147483647 ∷ [])))
    ∷ (json "[{'schema-ids':^5" gives refusal 28)
    ∷ (json "[{'schema-ids':[^null" gives refusal 28)
    -- add-sort-order: the published words for directions and nulls
    ∷ (one "add-sort-order" "'sort-order':{'order-id':0,'fields':[]}" gives sends (AddSortOrder (record { id = pos 0; fields = [] })))
    ∷ (one "add-sort-order" "'sort-order':{'fields':[{'transform':'identity','source-id':1,'direction':'asc','null-order':'nulls-last'},{'null-order':'nulls-first','direction':'desc','source-id':-1,'transform':'identity'}],'order-id':3000000000}"
    gives sends (AddSortOrder (record { id = pos 3000000000; fields = sort_by (pos 1) 0 1 ∷ sort_by (negsuc 0) 1 0 ∷ [] })))
    ∷ (json "[{'sort-order':^5" gives refusal 28)
    ∷ (json "[{'sort-order':{'order-id':^'1'" gives refusal 28)
    ∷ (json "[{'sort-order':{'fields':^{" gives refusal 28)
    ∷ (json "[{'sort-order':{'fields':[^5" gives refusal 28)
    ∷ (in_sort_field "'transform':^'bucket[4]'" gives refusal 28)
    ∷ (in_sort_field "'transform':^5" gives refusal 28)
    ∷ (in_sort_field "'source-id':^'1'" gives refusal 28)
    ∷ (in_sort_field "'direction':^'up'" gives refusal 28)
    ∷ (in_sort_field "'null-order':^'first'" gives refusal 28)
    -- set-default-sort-order: a number
    ∷ (one "set-default-sort-order" "'sort-order-id':3000000000" gives sends (SetDefaultSortOrder (pos 3000000000)))
    ∷ (json "[{'sort-order-id':^'1'" gives refusal 28)
    -- add-spec: a field's id may be absent
    ∷ (one "add-spec" "'spec':{'fields':[]}" gives offers (AddPartitionSpec (record { id = pos 0; at = 0; ids = [] }) ∷ []) [])
    ∷ (one "add-spec" "'spec':{'spec-id':7,'fields':[{'source-id':1,'field-id':1000,'name':'y','transform':'year'},{'transform':'bucket[258]','name':'bc','source-id':65537}]}"
    gives offers (AddPartitionSpec (record { id = pos 7; at = 0; ids = some (pos 1000) ∷ none ∷ [] }) ∷ []) ((1 ∷ 0 ∷ 0 ∷ 0 ∷ 2 ∷ 0 ∷ 0 ∷ 0 ∷ 0 ∷ 1 ∷ []) ++ name_offer "y" 31 ++ (1 ∷ 0 ∷ 1 ∷ 0 ∷ 5 ∷ 2 ∷ 1 ∷ 0 ∷ 0 ∷ 2 ∷ []) ++ name_offer "bc" 30))
    ∷ (json "[{'spec':^5" gives refusal 28)
    ∷ (json "[{'spec':{'spec-id':^'1'" gives refusal 28)
    ∷ (json "[{'spec':{'fields':^5" gives refusal 28)
    ∷ (json "[{'spec':{'fields':[^[" gives refusal 28)
    ∷ (in_partition_field "'source-id':^'1'" gives refusal 28)
    ∷ (in_partition_field "'field-id':^'1'" gives refusal 28)
    ∷ (in_partition_field "'name':^5" gives refusal 28)
    -- set-default-spec: a number
    ∷ (one "set-default-spec" "'spec-id':-1" gives sends (SetDefaultPartitionSpec (negsuc 0)))
    ∷ (json "[{'spec-id':^'1'" gives refusal 28)
    -- remove-partition-specs: a list of numbers
    ∷ (one "remove-partition-specs" "'spec-ids':[7,0]" gives sends (RemovePartitionSpecs (pos 7 ∷ pos 0 ∷ [])))
    ∷ (json "[{'spec-ids':^5" gives refusal 28)
    ∷ (json "[{'spec-ids':[^'1'" gives refusal 28)
    -- several updates: in their order; what each offers stands behind what those before it offer
    ∷ (json "[{'action':'add-schema','schema':{'type':'struct','fields':[{'id':1,'name':'a','required':false,'type':'long'}]}},{'action':'set-current-schema','schema-id':-1},{'action':'add-spec','spec':{'fields':[{'source-id':2,'name':'b','transform':'identity'}]}},{'action':'add-schema','schema':{'schema-id':2,'type':'struct','fields':[]}}]"
    gives offers (AddSchema (record { id = pos 0; at = 0; count = 1 }) ∷ SetCurrentSchema (negsuc 0) ∷ AddPartitionSpec (record { id = pos 0; at = 38; ids = none ∷ [] }) ∷ AddSchema (record { id = pos 2; at = 80; count = 0 }) ∷ [])
    ((1 ∷ 0 ∷ 0 ∷ 0 ∷ 1 ∷ 1 ∷ []) ++ name_offer "a" 31 ++ (2 ∷ 0 ∷ 0 ∷ 0 ∷ 1 ∷ 0 ∷ 0 ∷ 0 ∷ 0 ∷ 1 ∷ []) ++ name_offer "b" 31))
    -- transforms: the five, a bucket with its number, which has no leading zero
    ∷ (transformed "'identity'^" gives refusal 27)
    ∷ (transformed "'year'^" gives refusal 27)
    ∷ (transformed "'month'^" gives refusal 27)
    ∷ (transformed "'day'^" gives refusal 27)
    ∷ (transformed "'bucket[0]'^" gives refusal 27)
    ∷ (transformed "'bucket[16]'^" gives refusal 27)
    ∷ (transformed "'bucket[2147483647]'^" gives refusal 27)
    ∷ (transformed "^'bucket[2147483648]'" gives refusal 28)
    ∷ (transformed "^'bucket[016]'" gives refusal 28)
    ∷ (transformed "^'bucket[00]'" gives refusal 28)
    ∷ (transformed "^'bucket[]'" gives refusal 28)
    ∷ (transformed "^'bucket[-1]'" gives refusal 28)
    ∷ (transformed "^'bucket[1'" gives refusal 28)
    ∷ (transformed "^'bucket[1]]'" gives refusal 28)
    ∷ (transformed "^'bucket[1 6]'" gives refusal 28)
    ∷ (transformed "^'bucket'" gives refusal 28)
    ∷ (transformed "^'Bucket[1]'" gives refusal 28)
    ∷ (transformed "^'hour'" gives refusal 28)
    ∷ (transformed "^''" gives refusal 28)
    ∷ (transformed "^5" gives refusal 28)
    ∷ (transformed "^['year']" gives refusal 28)
    -- months and days: in a record
    ∷ (one "add-spec" "'spec':{'fields':[{'source-id':1,'name':'m','transform':'month'},{'source-id':1,'name':'d','transform':'day'}]}"
    gives offers (AddPartitionSpec (record { id = pos 0; at = 0; ids = none ∷ none ∷ [] }) ∷ []) ((1 ∷ 0 ∷ 0 ∷ 0 ∷ 3 ∷ 0 ∷ 0 ∷ 0 ∷ 0 ∷ 1 ∷ []) ++ name_offer "m" 31 ++ (1 ∷ 0 ∷ 0 ∷ 0 ∷ 4 ∷ 0 ∷ 0 ∷ 0 ∷ 0 ∷ 1 ∷ []) ++ name_offer "d" 31))
    -- What is not published: 28.
    -- unlisted actions: at the action
    ∷ (json "[{'action':^'set-properties'}]" gives refusal 28)
    ∷ (json "[{'action':^'set-statistics'}]" gives refusal 28)
    ∷ (json "[{'action':^''" gives refusal 28)
    ∷ (json "[{'action':^5" gives refusal 28)
    ∷ (json "[{'action':^{" gives refusal 28)
    -- no update: what is no object
    ∷ (json "[^null]" gives refusal 28)
    ∷ (json "[^'assign-uuid'" gives refusal 28)
    -- unknown members: of an update and of each record, also where they are published
    ∷ (json "[{^'':1" gives refusal 28)
    ∷ (json "[{'action':'assign-uuid',^'UUID':1" gives refusal 28)
    ∷ (json "[{'snapshot':{^'key-id':1" gives refusal 28)
    ∷ (json "[{'snapshot':{^'manifests':[]" gives refusal 28)
    ∷ (json "[{'schema':{^'identifier-field-ids':[]" gives refusal 28)
    ∷ (in_field "^'doc':''" gives refusal 28)
    ∷ (in_field "^'initial-default':1" gives refusal 28)
    ∷ (in_field "^'write-default':1" gives refusal 28)
    ∷ (json "[{'sort-order':{^'schema-id':1" gives refusal 28)
    ∷ (in_sort_field "^'source-ids':[]" gives refusal 28)
    ∷ (json "[{'spec':{^'schema-id':1" gives refusal 28)
    ∷ (in_partition_field "^'source-ids':[]" gives refusal 28)
    -- repeated members: at the second name, whose value is not judged
    ∷ (json "[{'schema-id':1,^'schema-id':1" gives refusal 28)
    ∷ (json "[{'schema-id':1,'location':'',^'schema-id'" gives refusal 28)
    ∷ (json "[{'snapshot':{'snapshot-id':1,^'snapshot-id':'x'" gives refusal 28)
    ∷ (in_field "'id':1,^'id':1" gives refusal 28)
    ∷ (json "[{'schema':{'type':'struct',^'type':'struct'" gives refusal 28)
    -- other actions' members: before the action and behind it, once it is known
    ∷ (json "[{^'location':'x','uuid':'00112233-4455-6677-8899-aabbccddeeff','action':'assign-uuid'}]" gives refusal 28)
    ∷ (json "[{'action':'assign-uuid',^'location':'x'" gives refusal 28)
    ∷ (json "[{'action':'assign-uuid',^'location'" gives refusal 28)
    ∷ (json "[{'action':'remove-snapshot-ref','ref-name':'a',^'type':'tag'" gives refusal 28)
    ∷ (json "[{'location':'x','uuid':^'','action':'" gives refusal 28)
    ∷ (json "[{'location':'x','schema-id':1,'action'^" gives refusal 27)
    ∷ (json "[{'location':'x','action':^'set-properties'}]" gives refusal 28)
    -- two actions: the first decides, and the second is repeated
    ∷ (json "[{'location':'x','action':'set-location',^'action':'assign-uuid'}]" gives refusal 28)
    ∷ (json "[{^'location':'x','action':'assign-uuid','action':'set-location'" gives refusal 28)
    ∷ (json "[{'location':'x','action':^5,'action':'assign-uuid'}]" gives refusal 28)
    -- no action: missing from an update that is closed
    ∷ (json "[^{}]" gives refusal 28)
    ∷ (json "[^{'location':'x'}" gives refusal 28)
    ∷ (json "[{'location':'x'^" gives refusal 27)
    -- missing from an update: each member that its action requires
    ∷ (json "[^{'action':'assign-uuid'}" gives refusal 28)
    ∷ (json "[{'action':'assign-uuid'^" gives refusal 27)
    ∷ (json "[^{'action':'upgrade-format-version'}" gives refusal 28)
    ∷ (json "[^{'action':'set-location'}" gives refusal 28)
    ∷ (json "[^{'action':'add-snapshot'}" gives refusal 28)
    ∷ (json "[^{'action':'remove-snapshots'}" gives refusal 28)
    ∷ (json "[^{'action':'set-snapshot-ref','type':'tag','snapshot-id':1}" gives refusal 28)
    ∷ (json "[^{'action':'set-snapshot-ref','ref-name':'a','snapshot-id':1}" gives refusal 28)
    ∷ (json "[^{'action':'set-snapshot-ref','ref-name':'a','type':'tag'}" gives refusal 28)
    ∷ (json "[^{'action':'remove-snapshot-ref'}" gives refusal 28)
    ∷ (json "[^{'action':'add-schema','last-column-id':1}" gives refusal 28)
    ∷ (json "[^{'action':'set-current-schema'}" gives refusal 28)
    ∷ (json "[^{'action':'remove-schemas'}" gives refusal 28)
    ∷ (json "[^{'action':'add-sort-order'}" gives refusal 28)
    ∷ (json "[^{'action':'set-default-sort-order'}" gives refusal 28)
    ∷ (json "[^{'action':'add-spec'}" gives refusal 28)
    ∷ (json "[^{'action':'set-default-spec'}" gives refusal 28)
    ∷ (json "[^{'action':'remove-partition-specs'}" gives refusal 28)
    -- missing from a record: each member that it requires, at its first byte, once it is closed
    ∷ (json "[{'snapshot':^{'timestamp-ms':2}" gives refusal 28)
    ∷ (json "[{'snapshot':^{'snapshot-id':1}" gives refusal 28)
    ∷ (json "[{'snapshot':{'snapshot-id':1^" gives refusal 27)
    ∷ (json "[{'schema':^{'fields':[]}" gives refusal 28)
    ∷ (json "[{'schema':^{'type':'struct'}" gives refusal 28)
    ∷ (json "[{'schema':{'fields':[^{'name':'a','required':false,'type':'long'}" gives refusal 28)
    ∷ (json "[{'schema':{'fields':[^{'id':1,'required':false,'type':'long'}" gives refusal 28)
    ∷ (json "[{'schema':{'fields':[^{'id':1,'name':'a','type':'long'}" gives refusal 28)
    ∷ (json "[{'schema':{'fields':[^{'id':1,'name':'a','required':false}" gives refusal 28)
    ∷ (json "[{'sort-order':^{'fields':[]}" gives refusal 28)
    ∷ (json "[{'sort-order':^{'order-id':1}" gives refusal 28)
    ∷ (json "[{'sort-order':{'fields':[^{'source-id':1,'direction':'asc','null-order':'nulls-last'}" gives refusal 28)
    ∷ (json "[{'sort-order':{'fields':[^{'transform':'identity','direction':'asc','null-order':'nulls-last'}" gives refusal 28)
    ∷ (json "[{'sort-order':{'fields':[^{'transform':'identity','source-id':1,'null-order':'nulls-last'}" gives refusal 28)
    ∷ (json "[{'sort-order':{'fields':[^{'transform':'identity','source-id':1,'direction':'desc'}" gives refusal 28)
    ∷ (json "[{'spec':^{'spec-id':1}" gives refusal 28)
    ∷ (json "[{'spec':{'fields':[^{'name':'a','transform':'day'}" gives refusal 28)
    ∷ (json "[{'spec':{'fields':[^{'source-id':1,'transform':'day'}" gives refusal 28)
    ∷ (json "[{'spec':{'fields':[^{'source-id':1,'name':'a'}" gives refusal 28)
    -- half a row range: either half alone is 28 at the snapshot, once it is closed
    ∷ (json "[{'snapshot':^{'snapshot-id':1,'timestamp-ms':2,'first-row-id':3}" gives refusal 28)
    ∷ (json "[{'snapshot':^{'snapshot-id':1,'timestamp-ms':2,'added-rows':3}" gives refusal 28)
    ∷ (json "[{'snapshot':{'snapshot-id':1,'timestamp-ms':2,'added-rows':3^" gives refusal 27)
    -- schemas: a field's type and `required` are 28 at the schema, from the moment they are known
    ∷ (json "[{'schema':^{'type':'struct','fields':[{'id':7,'type':'int'" gives refusal 28)
    ∷ (json "[{'schema':{'type':'struct','fields':[{'id':7,'type':'int^" gives refusal 27)
    ∷ (json "[{'schema':^{'fields':[{'required':true" gives refusal 28)
    ∷ (json "[{'schema':^{'fields':[{'required':null" gives refusal 28)
    ∷ (json "[{'schema':^{'fields':[{'required':'false'" gives refusal 28)
    ∷ (json "[{'schema':^{'fields':[{'type':5" gives refusal 28)
    ∷ (json "[{'schema':^{'fields':[{'type':{" gives refusal 28)
    ∷ (json "[{'schema':^{'fields':[{'required':[" gives refusal 28)
    ∷ (json "[{'schema':^{'fields':[{'type':'timestamptz'" gives refusal 28)
    ∷ (json "[{'action':'add-schema','schema':{'type':'struct','fields':[" ++ field ++ json "]}},{'schema':^{'fields':[{'type':'string'" gives refusal 28)
    -- other defects of a field: at their own places
    ∷ (in_field "'name':^5" gives refusal 28)
    ∷ (in_field "'id':^'7'" gives refusal 28)
    ∷ (in_field "'id':^[" gives refusal 28)
    ∷ (in_field "'type':'long','required':false,^'other':1" gives refusal 28)
    -- The least of all that is wrong.
    -- earliest: 28 before a later 27, 29 before a later 28, and 28 before a later 29
    ∷ (json "[{'action':'assign-uuid','uuid':^5,x" gives refusal 28)
    ∷ (json "[{'ref-name':^'" ++ many 33 (json "x") ++ json "','location':5" gives refusal 29)
    ∷ (json "[{'location':^5,'ref-name':'" ++ many 33 (json "x") ++ json "'" gives refusal 28)
    ∷ (json "[{'location':^5,'uuid':6" gives refusal 28)
    ∷ (json "[^{'location':5}" gives refusal 28)
    ∷ []
