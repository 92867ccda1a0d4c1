-- Text behind calls.
--
-- A group INLINE of an information file says that text follows each call of its address, up to and with the first zero
-- byte, or of as many bytes as its SIZE says. Code goes on behind it.
use Rattle.std.specs.Prelude.{ℕ, ◌+◌, ◌==◌, ◌&&◌, Bool, true, false, List, [], ◌∷◌, if◌then◌else◌, Option, Some, None}
use Rattle.reach65.specs.Types.{Tag, TagKind}
use Rattle.info65.specs.declared.tags.tag.TagKind.TheVariants as kind
use Rattle.map65.specs.Words.{ImageView, bytes_from}

abbrev pub is_kind : TagKind → Bool
is_kind kind.Inline = true
is_kind _ = false

abbrev pub is_at : Option ℕ → ℕ → Bool
is_at None a = false
is_at (Some b) a = b == a

-- the group says it of the address
unfoldable pub is_inline : ℕ → Tag → Bool
is_inline a t = is_kind t.kind && is_at t.address a

-- the first group that does
unfoldable pub inline_of : List Tag → ℕ → Option Tag
inline_of [] a = None
inline_of (t ∷ tags) a = if is_inline a t then Some t else inline_of tags a

-- the address after the first zero byte of these, of which the first stands at the address
unfoldable pub zero_end : ℕ → List ℕ → Option ℕ
zero_end a [] = None
zero_end a (b ∷ bytes) = if b == 0 then Some (a + 1) else zero_end (a + 1) bytes

-- the address after the text that stands at the address, if the group says where it ends
unfoldable pub text_end : ImageView → Option ℕ → ℕ → Option ℕ
text_end image None a = zero_end a (bytes_from image a)
text_end image (Some size) a = Some (a + size)
