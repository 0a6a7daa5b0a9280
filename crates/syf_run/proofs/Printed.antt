-- Digits and lines that are put behind others.
use Rattle.std.proofs.Common.{◌≡◌, ℕ, Bool, List, [], ◌∷◌, ◌++◌, map, refl, sym, ap, ◌∙◌, append_assoc, append-nil}
use Rattle.std.specs.Borrow.{Bor}
use Rattle.std.specs.List.{zip}
use Rattle.vlsi_base.specs.declared.name.Name.{Name}
use Rattle.syf_run.specs.Syf.{bit_digit, digits, code_line, code_lines}

-- the digits of the bits that were read
abbrev pub digits_read : List (Bor Bool) → List ℕ
digits_read seen = digits (map (λ (bit : Bor Bool). bit.now) seen)

pub digits_read_more : (seen : List (Bor Bool)) (bit : Bor Bool) → digits_read (seen ++ bit ∷ []) ≡ digits_read seen ++ bit_digit bit.now ∷ []
digits_read_more [] bit = refl
digits_read_more (b ∷ seen) bit = ap (λ (rest : List ℕ). bit_digit b.now ∷ rest) (digits_read_more seen bit)

pub digit_put : (start now after : List ℕ) (seen : List (Bor Bool)) (bit : Bor Bool) (digit : ℕ)
    → now ≡ start ++ digits_read seen → digit ≡ bit_digit bit.now → after ≡ now ++ digit ∷ [] → after ≡ start ++ digits_read (seen ++ bit ∷ [])
digit_put start now after seen bit digit h d e =
    e ∙ ap (λ (front : List ℕ). front ++ digit ∷ []) h
    ∙ append_assoc start (digits_read seen) (digit ∷ [])
    ∙ ap (λ (rest : List ℕ). start ++ rest) (ap (λ (x : ℕ). digits_read seen ++ x ∷ []) d ∙ sym (digits_read_more seen bit))

-- the lines of pairs that were read
abbrev pub pair_read : Bor Name × Bor (List Bool) → Name × List Bool
pair_read p = (p.0.now, p.1.now)

abbrev pub lines_of : List (Name × List Bool) → List ℕ
lines_of [] = []
lines_of (p ∷ pairs) = code_line p.0 p.1 ++ lines_of pairs

abbrev pub lines_read : List (Bor Name × Bor (List Bool)) → List ℕ
lines_read seen = lines_of (map pair_read seen)

pub lines_read_more : (seen : List (Bor Name × Bor (List Bool))) (p : Bor Name × Bor (List Bool)) → lines_read (seen ++ p ∷ []) ≡ lines_read seen ++ code_line p.0.now p.1.now
lines_read_more [] p = append-nil (code_line p.0.now p.1.now)
lines_read_more (q ∷ seen) p =
    ap (λ (rest : List ℕ). code_line q.0.now q.1.now ++ rest) (lines_read_more seen p)
    ∙ sym (append_assoc (code_line q.0.now q.1.now) (lines_read seen) (code_line p.0.now p.1.now))

pub line_put : (start now after : List ℕ) (seen : List (Bor Name × Bor (List Bool))) (p : Bor Name × Bor (List Bool)) (code : List Bool)
    → now ≡ start ++ lines_read seen → code ≡ p.1.now → after ≡ now ++ code_line p.0.now code → after ≡ start ++ lines_read (seen ++ p ∷ [])
line_put start now after seen p code h d e =
    e ∙ ap (λ (front : List ℕ). front ++ code_line p.0.now code) h
    ∙ append_assoc start (lines_read seen) (code_line p.0.now code)
    ∙ ap (λ (rest : List ℕ). start ++ rest) (ap (λ (bits : List Bool). lines_read seen ++ code_line p.0.now bits) d ∙ sym (lines_read_more seen p))

pub lines_zip : (states : List Name) (codes : List (List Bool)) → lines_of (zip states codes) ≡ code_lines states codes
lines_zip [] codes = refl
lines_zip (s ∷ states) [] = refl
lines_zip (s ∷ states) (c ∷ codes) = ap (λ (rest : List ℕ). code_line s c ++ rest) (lines_zip states codes)
