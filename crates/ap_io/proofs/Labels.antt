-- Names of a line.
use Rattle.std.proofs.Common.{◌≡◌, ℕ, Bool, true, false, ◌&&◌, ◌||◌, List, Option, None, Some, bytes_eq, codes, ap, sym, ◌∙◌, if◌then◌else◌}
use Rattle.std.specs.Prelude.{slice_index}
use Rattle.std.specs.Option.{option_map}
use Rattle.std.specs.Char.{is_ascii_alphabetic}
use Rattle.vlsi_base.specs.Number.{value_of}
use Rattle.vlsi_base.specs.declared.name.Name.{Name}
use Rattle.ap_io.specs.Fields.{is_label, label_of, is_bit_of, bit_digits, behind_word, word_of, lower}

bit_after : (star first bit : Bool) → star || (first && bit) ≡ true → star ≡ false → bit ≡ true
bit_after true first bit label none = absurd (cc)
bit_after false true bit label none = label
bit_after false false bit label none = absurd (cc)

-- a name that isn't a star has a bit or nothing behind its identifier
pub has_bit : (text : List ℕ) → is_label text ≡ true → bytes_eq text (codes "*") ≡ false → is_bit_of (bit_digits (behind_word text)) (behind_word text) ≡ true
unfolding is_label
has_bit text label none = bit_after (bytes_eq text (codes "*")) (is_ascii_alphabetic (slice_index text 0)) (is_bit_of (bit_digits (behind_word text)) (behind_word text)) label none

pub name_is : (text word : List ℕ) (bit : Option ℕ) → bytes_eq text (codes "*") ≡ false → word ≡ lower (word_of text) → bit ≡ option_map value_of (bit_digits (behind_word text))
    → Some (record { text = word; bit = bit }) ≡ label_of text
unfolding label_of
name_is text word bit none is bits =
    let made : List ℕ → Option ℕ → Option Name = λ w b. Some (record { text = w; bit = b }) in
    ap (λ w. made w bit) is ∙ ap (made (lower (word_of text))) bits
    ∙ sym (ap (λ (e : Bool). if e then None else made (lower (word_of text)) (option_map value_of (bit_digits (behind_word text)))) none)

pub bit_is : (text rest : List ℕ) (bit : Option ℕ) → is_bit_of (bit_digits (behind_word text)) (behind_word text) ≡ true → rest ≡ behind_word text
    → (is_bit_of (bit_digits rest) rest ≡ true → bit ≡ option_map value_of (bit_digits rest)) → bit ≡ option_map value_of (bit_digits (behind_word text))
bit_is text rest bit has is so = rw (← is) (so (rw is has))
