-- 64-bit FNV-1a digests of bytes and of numbers.
use Rattle.std.specs.Prelude.{ℕ, ◌*◌, ◌/◌, ◌%◌, ◌^◌, List, bit_xor, fold}

-- the digest of no bytes
abbrev pub digest_start : ℕ
digest_start = 14695981039346656037

-- the digest with one byte more: exclusive-or first, then times 1,099,511,628,211, modulo 2^64
unfoldable pub digest_byte : ℕ → ℕ → ℕ
digest_byte h b = (bit_xor h b * 1099511628211) % 2 ^ 64

-- the digest with one number more, of four bytes, lowest first
unfoldable pub digest_number : ℕ → ℕ → ℕ
digest_number h x = digest_byte (digest_byte (digest_byte (digest_byte h (x % 256)) (x / 256 % 256)) (x / 65536 % 256)) (x / 16777216 % 256)

-- the digest with all of a list more, each entry added by f
abbrev pub digest_all : {A : Type 0} → (ℕ → A → ℕ) → ℕ → List A → ℕ
digest_all f h xs = fold f h xs

-- the digest with all of a list of bytes more
abbrev pub digest_bytes : ℕ → List ℕ → ℕ
digest_bytes h s = digest_all digest_byte h s

-- the digest with all of a list of numbers more
abbrev pub digest_numbers : ℕ → List ℕ → ℕ
digest_numbers h s = digest_all digest_number h s
