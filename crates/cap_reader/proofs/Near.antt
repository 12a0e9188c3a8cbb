-- What a pointer's word says by itself, where it isn't far.
use Rattle.std.proofs.Common.{◌≡◌, ◌≢◌, ℕ, ◌%◌, ◌/◌, ◌^◌, List, Ok, refl}
use Rattle.std.specs.Prelude.{slice_index}
use Rattle.std.proofs.lemmas.Bool.{eq-eqb, ne_eqb}
use Rattle.cap_reader.specs.declared.pointee.Pointee.TheVariants as leads
use Rattle.cap_reader.specs.Pointers.{words_of, pointer_of, pointee_of, pointee_behind, pointee_at, start_from, offset_bits, data_bits, pointer_bits}

pub null_word : (segments : List (List ℕ)) (segment at : ℕ) → slice_index (words_of segments segment) at ≡ 0 → pointee_at segments segment at ≡ Ok leads.Null
unfolding pointer_of pointee_of pointee_behind
null_word segments segment at e = rw e refl

struct_bits : (segments : List (List ℕ)) (segment at word : ℕ) → word ≢ 0 → word % 4 ≡ 0 → pointee_behind segments segment at (pointer_of word) ≡ Ok (leads.Struct segment (start_from at (offset_bits word)) (data_bits word) (pointer_bits word))
unfolding pointer_of pointee_of pointee_behind
struct_bits segments segment at word some e = rw (ne_eqb word 0 some, eq-eqb (word % 4) 0 e) refl

pub struct_word : (segments : List (List ℕ)) (segment at word : ℕ) → word ≡ slice_index (words_of segments segment) at → word ≢ 0 → word % 4 ≡ 0 → pointee_at segments segment at ≡ Ok (leads.Struct segment (start_from at (offset_bits word)) (data_bits word) (pointer_bits word))
struct_word segments segment at word is some e = rw (← is) (struct_bits segments segment at word some e)

list_bits : (segments : List (List ℕ)) (segment at word : ℕ) → word ≢ 0 → word % 4 ≡ 1 → (word / 2 ^ 32) % 8 ≡ 7 → pointee_behind segments segment at (pointer_of word) ≡ Ok (leads.List segment (start_from at (offset_bits word)) 7 ((word / 2 ^ 35) % 2 ^ 29))
unfolding pointer_of pointee_of pointee_behind
list_bits segments segment at word some e size = rw (ne_eqb word 0 some, e, size) refl

pub composite_word : (segments : List (List ℕ)) (segment at word : ℕ) → word ≡ slice_index (words_of segments segment) at → word ≢ 0 → word % 4 ≡ 1 → (word / 2 ^ 32) % 8 ≡ 7 → pointee_at segments segment at ≡ Ok (leads.List segment (start_from at (offset_bits word)) 7 ((word / 2 ^ 35) % 2 ^ 29))
composite_word segments segment at word is some e size = rw (← is) (list_bits segments segment at word some e size)
