-- The image that an input gives.
--
-- The image is what the settings ask for: INPUTSIZE bytes after the first INPUTOFFS, or all that follow these; or the
-- first of Read, Short, Empty and TooLarge that holds. By default it ends at $FFFF.
use Rattle.std.specs.Prelude.{◌≡◌, ℕ, ◌+◌, ◌-◌, ◌==◌, ◌||◌, Bool, true, false, nat_lt, if◌then◌else◌, List, length, drop, take, Option, Some, None, Result, Ok, Err, ⊤}
use Rattle.info65.specs.Words.{SettingsView}
use Rattle.map65.specs.Types.{Empty, ImageFault, Short, TakeFault, TooLarge}
use Rattle.map65.specs.declared.image.ImageFault.TheVariants.{Read, Memory}
use Rattle.map65.specs.declared.devices.taking.TakeFault.TheVariants as Taken
use Rattle.map65.specs.Device.{one_more}
use Rattle.map65.specs.ImageView.{ImageView}
use Rattle.map65.specs.Taking.{IsReadTo}

-- ---- what is asked of the reader

-- as many of some bytes as the size says; without a size all of them
abbrev pub sized : Option ℕ → List ℕ → List ℕ
sized None bytes = bytes
sized (Some n) bytes = take n bytes

-- the bytes after the offset, as many as the size says or all
abbrev pub asked_of : SettingsView → List ℕ → List ℕ
asked_of s bytes = sized s.size (drop s.offset bytes)

-- how many bytes are read at most after the offset: without a size one more than an image may have
abbrev pub most_of : Option ℕ → ℕ
most_of None = 65537
most_of (Some n) = n

-- how many bytes are read at most, from the first one of the input on
abbrev pub read_limit : SettingsView → ℕ
read_limit s = s.offset + most_of s.size

-- ---- the image of some bytes

-- the given start; without one, the start from which that many bytes end at $FFFF
abbrev pub start_of : Option ℕ → ℕ → ℕ
start_of (Some start) count = start
start_of None count = 65536 - count

-- a size is given, and there are fewer bytes
abbrev pub is_short : Option ℕ → ℕ → Bool
is_short None count = false
is_short (Some n) count = nat_lt count n

-- The image of the bytes that were read, by the given start and size, if any.
unfoldable pub image_by : Option ℕ → Option ℕ → List ℕ → Result ImageView ImageFault
image_by start size bytes =
    if is_short size (length bytes) then Err Short
    else (if length bytes == 0 then Err Empty
    else (if nat_lt 65536 (length bytes) || nat_lt 65536 (start_of start (length bytes) + length bytes) then Err TooLarge
    else Ok (record { start = start_of start (length bytes); bytes = bytes })))

-- The image by the settings. `failed` says whether a read failed among those that are asked of the input.
unfoldable pub image_of : SettingsView → List ℕ → Bool → Result ImageView ImageFault
image_of s bytes failed = if failed then Err Read else image_by s.start s.size (asked_of s bytes)

-- ---- the answer

-- the fault of bytes that were not read
abbrev pub image_fault : TakeFault → ImageFault
image_fault Taken.Read = Read
image_fault Taken.Memory = Memory

-- the result is the expected one, unless memory ran out
abbrev pub GivesImage : Result ImageView ImageFault → Result ImageView ImageFault → Type 0
GivesImage (Err Memory) expected = ⊤
GivesImage result expected = expected ≡ result

-- the count of failed reads rises by one exactly when the result is Read
abbrev pub ReadCount : {T : Type 0} → Result T ImageFault → ℕ → ℕ → Type 0
ReadCount (Err Read) old new = new ≡ one_more old
ReadCount _ old new = new ≡ old

-- reading went on to the limit or the end, or to the first read that failed, which
-- was the last one; unless memory ran out
abbrev pub StopsAt : {T : Type 0} → Result T ImageFault → ℕ → Option (List ℕ) → Option (List ℕ) → Bool → Type 0
StopsAt (Err Read) limit old new failed = failed ≡ true
StopsAt (Err Memory) limit old new failed = ⊤
StopsAt _ limit old new failed = IsReadTo limit old new
