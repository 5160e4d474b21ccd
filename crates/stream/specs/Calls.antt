-- How calls are written in a stream: a record each, and after the record of a sheet or a program its bytes.
use Rattle.std.specs.Prelude.{◌≡◌, ℕ, ◌/◌, ◌%◌, Bool, cond, ◌&&◌, List, [], ◌∷◌, ◌++◌, length, Some, None, Option, ◌==◌, ◌≢◌}
use Rattle.std.specs.Int.{w32}
use Rattle.std.proofs.Common.{of_z, to_z}
use Rattle.records.specs.declared.Record.{Record}
use Rattle.records.specs.Records.{Fit, bytes}
use Rattle.machine.specs.Calls.{Call}
use Rattle.stream.specs.declared.calls.Call as coded
use Rattle.stream.specs.declared.calls.Call.TheVariants.{Sheet, Load, Feed, Raise, Lower, Pass, Look, Ask, Image}

abbrev pub call_record : ℕ → ℕ → ℕ → Record
call_record letter a n = record { letter = letter; a = a; b = 0; c = 0; n = n }

-- h l f u d p k q i
abbrev pub head_of : Call → Record
head_of (Call.sheet xs) = call_record 104 0 (length xs / 8)
head_of (Call.load xs) = call_record 108 0 (length xs / 8)
head_of (Call.feed v x) = call_record 102 v (of_z w32 x)
head_of (Call.raise c) = call_record 117 c 0
head_of (Call.lower c) = call_record 100 c 0
head_of (Call.pass turns) = call_record 112 0 turns
head_of (Call.look level v) = call_record 107 v level
head_of (Call.ask level c) = call_record 113 c level
head_of (Call.image level size) = call_record 105 0 level

abbrev pub body_of : Call → List ℕ
body_of (Call.sheet xs) = xs
body_of (Call.load xs) = xs
body_of (Call.feed v x) = []
body_of (Call.raise c) = []
body_of (Call.lower c) = []
body_of (Call.pass turns) = []
body_of (Call.look level v) = []
body_of (Call.ask level c) = []
body_of (Call.image level size) = []

abbrev pub call_bytes : Call → List ℕ
call_bytes c = bytes (head_of c ∷ []) ++ body_of c

-- the machine's call, with a buffer of this size for an image
abbrev pub heard : ℕ → coded.Call → Call
heard size (Sheet xs) = Call.sheet xs.now
heard size (Load xs) = Call.load xs.now
heard size (Feed v x) = Call.feed v x
heard size (Raise c) = Call.raise c
heard size (Lower c) = Call.lower c
heard size (Pass turns) = Call.pass turns
heard size (Look level v) = Call.look level v
heard size (Ask level c) = Call.ask level c
heard size (Image level) = Call.image level size

-- unnamed fields are zero; p and i name n alone, u and d a alone, f, k and q both
abbrev pub plain_head : Record → Bool
plain_head r = r.b == 0 && r.c == 0

abbrev pub number_head : Record → Bool
number_head r = r.a == 0 && plain_head r

abbrev pub name_head : Record → Bool
name_head r = plain_head r && r.n == 0

-- the call of a record that needs no further bytes
abbrev pub short_call : Record → Option coded.Call
short_call r =
    cond (r.letter == 102 && plain_head r) (Some (Feed r.a (to_z w32 r.n)))
    (cond (r.letter == 117 && name_head r) (Some (Raise r.a))
    (cond (r.letter == 100 && name_head r) (Some (Lower r.a))
    (cond (r.letter == 112 && number_head r) (Some (Pass r.n))
    (cond (r.letter == 107 && plain_head r) (Some (Look r.n r.a))
    (cond (r.letter == 113 && plain_head r) (Some (Ask r.n r.a))
    (cond (r.letter == 105 && number_head r) (Some (Image r.n)) None))))))

-- the call stands at the front, its bytes are whole records, and the rest follows
pub record CallRead (input : List ℕ) (call : coded.Call) (rest : List ℕ) : Type 0 where
  pub stands : input ≡ call_bytes (heard 0 call) ++ rest
  pub whole : length (body_of (heard 0 call)) % 8 ≡ 0

-- there is something, and it begins with no call
pub record NoCall (input : List ℕ) : Type 0 where
  pub some : input ≡ [] → ⊥
  pub none : (c : Call) (rest : List ℕ) → Fit (head_of c) → input ≢ call_bytes c ++ rest
