-- How the rows of the tables are written: records and files by what differs from document 01's defaults, and what a row says.
use Rattle.std.specs.Prelude.{ℕ, ◌+◌, ◌-◌, ◌*◌, ◌^◌, ◌≡◌, List, [], ◌∷◌, ◌++◌, map, length, take, drop, replicate}
use Rattle.std.proofs.lemmas.List.Edits.{sets}
use Rattle.laws.specs.Words.{number_at, little}
use Rattle.registers.specs.Files.{file_kind, file_bytes}
use Rattle.record.specs.Records.{record_kind, record_bytes}
use Rattle.definition.specs.Limits.{most_bytes}
use Rattle.definition.specs.Visits.{visit_of}
use Rattle.definition.specs.Listings.{listing_call}
use Rattle.definition.specs.declared.Answer.{Answer}

-- a change of some bytes
abbrev pub Patch : Type 0
Patch = List ℕ → List ℕ

abbrev pub patched : List Patch → List ℕ → List ℕ
patched [] b = b
patched (c ∷ cs) b = patched cs (c b)

-- these bytes from this place on
abbrev pub put : ℕ → List ℕ → Patch
put place bytes b = sets b place bytes

-- so many bytes, cut or with 0 behind
abbrev pub long : ℕ → Patch
long n b = take n b ++ replicate (n - length b) 0

-- an opcode that no rule of a digest names
abbrev pub plain_opcode : ℕ
plain_opcode = 40

-- a record: that opcode, count 0, access 0x01, size 8, all else 0
abbrev pub record_with : List Patch → List ℕ
record_with cs = patched (put 0 (record_kind ∷ plain_opcode ∷ []) ∷ put 16 (8 ∷ []) ∷ put 37 (0x01 ∷ []) ∷ cs) (replicate record_bytes 0)

abbrev pub opcode : ℕ → Patch
opcode n = put 1 (little 2 n)

abbrev pub count : ℕ → Patch
count n = put 3 (n ∷ [])

-- the specs named, and the count that they make
abbrev pub specs : List ℕ → Patch
specs ss = put 3 (length ss ∷ ss)

abbrev pub regs : ℕ → ℕ → ℕ → Patch
regs i bank number = put (8 + 2 * i) (bank ∷ number ∷ [])

abbrev pub size : ℕ → Patch
size n = put 16 (n ∷ [])

abbrev pub scale : ℕ → Patch
scale n = put 17 (n ∷ [])

abbrev pub disp : ℕ → Patch
disp v = put 18 (little 8 v)

abbrev pub imm : ℕ → Patch
imm v = put 26 (little 8 v)

abbrev pub prefixes : ℕ → Patch
prefixes n = put 34 (n ∷ [])

abbrev pub mask : ℕ → Patch
mask n = put 35 (n ∷ [])

abbrev pub behavior : ℕ → Patch
behavior n = put 36 (n ∷ [])

abbrev pub access : ℕ → Patch
access n = put 37 (n ∷ [])

abbrev pub list : ℕ → Patch
list n = put 38 (little 2 n)

-- the same record in the kind that names a segment
abbrev pub segment : ℕ → Patch
segment n b = put 40 (n ∷ []) (long 41 (put 0 (0x11 ∷ []) b))

-- the same record in the kind that has no digest
abbrev pub everyday : Patch
everyday b = long 36 (put 0 (0x12 ∷ []) b)

-- a register file that knows nothing but what is said
abbrev pub file_knowing : List Patch → List ℕ
file_knowing cs = patched (put 0 (file_kind ∷ []) ∷ cs) (replicate file_bytes 0)

abbrev pub knows : ℕ → ℕ → Patch
knows k v f = put (5 + 8 * k) (little 8 v) (put 1 (little 4 (number_at f 1 4 + 2 ^ k)) f)

-- the same file in the kind that holds bases: value 17 is that of fs, and 18 that of gs
abbrev pub based : Patch
based f = long 157 (put 0 (0x21 ∷ []) f)

-- banks
abbrev pub Q : ℕ
Q = 0

abbrev pub D : ℕ
D = 1

abbrev pub W : ℕ
W = 2

abbrev pub r_b : ℕ
r_b = 3

abbrev pub B : ℕ
B = 4

abbrev pub X : ℕ
X = 5

abbrev pub K : ℕ
K = 8

abbrev pub RIP : ℕ
RIP = 9

abbrev pub EIP : ℕ
EIP = 10

abbrev pub RFLAGS : ℕ
RFLAGS = 11

-- the bases of fs and gs
abbrev pub BASES : ℕ
BASES = 13

-- specs
abbrev pub Nothing : ℕ
Nothing = 0

abbrev pub RegRRR : ℕ
RegRRR = 1

abbrev pub RegMMM : ℕ
RegMMM = 2

abbrev pub RegVex : ℕ
RegVex = 3

abbrev pub Reg4 : ℕ
Reg4 = 4

abbrev pub RegRRR_maskmerge : ℕ
RegRRR_maskmerge = 5

abbrev pub ImmI8 : ℕ
ImmI8 = 11

abbrev pub Deref : ℕ
Deref = 18

abbrev pub Deref_mask : ℕ
Deref_mask = 19

abbrev pub Deref_rdi : ℕ
Deref_rdi = 20

abbrev pub Deref_rsi : ℕ
Deref_rsi = 21

abbrev pub Deref_edi : ℕ
Deref_edi = 22

abbrev pub Deref_esi : ℕ
Deref_esi = 23

abbrev pub Disp : ℕ
Disp = 24

abbrev pub MemIndexScale : ℕ
MemIndexScale = 26

abbrev pub MemBaseIndexScale : ℕ
MemBaseIndexScale = 30

abbrev pub MemBaseIndexScale_mask : ℕ
MemBaseIndexScale_mask = 31

abbrev pub MemBaseIndexScaleDisp : ℕ
MemBaseIndexScaleDisp = 32

abbrev pub MemBaseIndexScaleDisp_mask : ℕ
MemBaseIndexScaleDisp_mask = 33

abbrev pub DispU64 : ℕ
DispU64 = 34

abbrev pub DispU32 : ℕ
DispU32 = 35

-- the bytes of events
abbrev pub log : List (List ℕ) → List ℕ
log [] = []
log (e ∷ es) = e ++ log es

abbrev pub reads : ℕ → ℕ → List ℕ
reads bank number = 1 ∷ bank ∷ number ∷ []

abbrev pub writes : ℕ → ℕ → List ℕ
writes bank number = 2 ∷ bank ∷ number ∷ []

abbrev pub loads : ℕ → ℕ → List ℕ
loads a n = 3 ∷ (little 8 a ++ (n ∷ []))

abbrev pub stores : ℕ → ℕ → List ℕ
stores a n = 4 ∷ (little 8 a ++ (n ∷ []))

abbrev pub loads_unknown : ℕ → List ℕ
loads_unknown n = 5 ∷ n ∷ []

abbrev pub stores_unknown : ℕ → List ℕ
stores_unknown n = 6 ∷ n ∷ []

-- A row of visiting or listing: a record, a file, a buffer of so many bytes 0xEE, a start; the answer, and what stands from the start on
pub record Row : Type 0 where
  pub fields : List Patch
  pub file : List Patch
  pub room : ℕ
  pub start : ℕ
  pub answer : Answer
  pub bytes : List ℕ

abbrev pub row_in : ℕ → ℕ → List Patch → List Patch → Answer → List ℕ → Row
row_in n s r f a l = record { fields = r; file = f; room = n; start = s; answer = a; bytes = l }

-- room for every log, and bytes before and behind it
abbrev pub row : List Patch → List Patch → Answer → List ℕ → Row
row r f a l = row_in (most_bytes + 4) 2 r f a l

abbrev pub buffer : ℕ → List ℕ
buffer n = replicate n 0xEE

-- what a row says: the answer, and the buffer with these bytes in it and all else as it was
abbrev pub said : Row → Answer × List ℕ
said r = (r.answer, take r.start (buffer r.room) ++ (r.bytes ++ drop (r.start + length r.bytes) (buffer r.room)))

-- what the definition of visiting, and of listing, gives of a row
abbrev pub visited : Row → Answer × List ℕ
visited r = visit_of (record_with r.fields) (file_knowing r.file) (buffer r.room) r.start

abbrev pub listed : Row → Answer × List ℕ
listed r = listing_call (record_with r.fields) (buffer r.room) r.start

-- every row says so
abbrev pub Visited : List Row → Type 0
Visited rows = map visited rows ≡ map said rows

abbrev pub Listed : List Row → Type 0
Listed rows = map listed rows ≡ map said rows

-- A row of two, an input and an output: what a function gives of the inputs, and what the rows say
abbrev pub given : {A B : Type 0} → (A → B) → List (A × B) → List B
given {A} {B} f rows = map (λ (r : A × B). f r.0) rows

abbrev pub outputs : {A B : Type 0} → List (A × B) → List B
outputs {A} {B} rows = map (λ (r : A × B). r.1) rows

abbrev pub Table : {A B : Type 0} → (A → B) → List (A × B) → Type 0
Table f rows = given f rows ≡ outputs rows
