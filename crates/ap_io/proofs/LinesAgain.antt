-- What is written is read again: lines, and fields between commas.
use Rattle.std.proofs.Common.{◌≡◌, ℕ, ◌-◌, Bool, true, false, not, ◌==◌, ◌||◌, List, [], ◌∷◌, ◌++◌, map, length, take, refl, ap, ◌∙◌, arith, append_assoc, append-nil, if◌then◌else◌}
use Rattle.std.specs.Prelude.{slice_index}
use Rattle.std.specs.List.{list_all}
use Rattle.std.proofs.lemmas.Bool.{and_parts}
use Rattle.vlsi_base.specs.Lines.{lines_of, without_return, put_before}
use Rattle.ap_io.specs.Fields.{fields_of, is_text_byte}
use Rattle.ap_io.specs.ApText.{is_field_byte, lines_in}
use Rattle.ap_io.proofs.Again.{field_alone, field_first}
use Rattle.ap_io.proofs.Bytes.{both, all_append, fields_have, texts_have}

-- ---- lines

neither : (a b : Bool) → not (a || b) ≡ true → (a ≡ false) × (b ≡ false)
neither true b h = absurd (cc)
neither false true h = absurd (cc)
neither false false h = (refl, refl)

no_feed : (b : ℕ) → is_text_byte b ≡ true → ((b == 10) ≡ false) × ((b == 13) ≡ false)
no_feed b h = neither (b == 10) (b == 13) h

-- a line without line feeds ends at the first
line_first : (line rest : List ℕ) → list_all is_text_byte line ≡ true → lines_of (line ++ 10 ∷ rest) ≡ line ∷ lines_of rest
unfolding lines_of
line_first [] rest all = refl
line_first (b ∷ bs) rest all =
    let parts = and_parts (is_text_byte b) (list_all is_text_byte bs) all in
    let more = lines_of (bs ++ 10 ∷ rest) in
    ap (λ (x : Bool). if x then [] ∷ more else put_before b more) (no_feed b parts.0).0 ∙ ap (put_before b) (line_first bs rest parts.1)

last_no_return : (b : ℕ) (bs : List ℕ) → list_all is_text_byte (b ∷ bs) ≡ true → (slice_index (b ∷ bs) (length bs) == 13) ≡ false
last_no_return b [] all = (no_feed b (and_parts (is_text_byte b) true all).0).1
last_no_return b (c ∷ cs) all = last_no_return c cs (and_parts (is_text_byte b) (list_all is_text_byte (c ∷ cs)) all).1

stays : (line : List ℕ) → list_all is_text_byte line ≡ true → without_return line ≡ line
stays [] all = refl
stays (b ∷ bs) all =
    let last : length (b ∷ bs) - 1 ≡ length bs = omega arith in
    ap (λ k. if slice_index (b ∷ bs) k == 13 then take k (b ∷ bs) else b ∷ bs) last
    ∙ ap (λ (e : Bool). if e then take (length bs) (b ∷ bs) else b ∷ bs) (last_no_return b bs all)

pub next_line : (text line rest : List ℕ) → text ≡ line ++ 10 ∷ rest → list_all is_text_byte line ≡ true → lines_in text ≡ line ∷ lines_in rest
next_line text line rest is all = ap lines_in is ∙ ap (map without_return) (line_first line rest all) ∙ ap (λ l. l ∷ lines_in rest) (stays line all)

pub no_lines_left : lines_in [] ≡ []
unfolding lines_of
no_lines_left = refl

-- ---- fields

-- fields with commas between them, and what stands behind
abbrev pub then_text : List (List ℕ) → List ℕ → List ℕ
then_text [] rest = rest
then_text (f ∷ []) rest = f ++ rest
then_text (f ∷ g ∷ fs) rest = f ++ 44 ∷ then_text (g ∷ fs) rest

abbrev pub joined : List (List ℕ) → List ℕ
joined fields = then_text fields []

abbrev pub all_fields : List (List ℕ) → Bool
all_fields fields = list_all (λ f. list_all is_field_byte f) fields

pub behind_joined : (fields : List (List ℕ)) (mid rest : List ℕ) → then_text fields mid ++ rest ≡ then_text fields (mid ++ rest)
behind_joined [] mid rest = refl
behind_joined (f ∷ []) mid rest = append_assoc f mid rest
behind_joined (f ∷ g ∷ fs) mid rest = append_assoc f (44 ∷ then_text (g ∷ fs) mid) rest ∙ ap (λ t. f ++ 44 ∷ t) (behind_joined (g ∷ fs) mid rest)

pub fields_again : (f : List ℕ) (fs : List (List ℕ)) → all_fields (f ∷ fs) ≡ true → fields_of (joined (f ∷ fs)) ≡ f ∷ fs
fields_again f [] all =
    let parts = and_parts (list_all is_field_byte f) true all in ap fields_of (append-nil f) ∙ field_alone f (fields_have f parts.0)
fields_again f (g ∷ fs) all =
    let parts = and_parts (list_all is_field_byte f) (all_fields (g ∷ fs)) all in
    field_first f (joined (g ∷ fs)) (fields_have f parts.0) ∙ ap (λ (rest : List (List ℕ)). f ∷ rest) (fields_again g fs parts.1)

pub joined_bytes : (fields : List (List ℕ)) → all_fields fields ≡ true → list_all is_text_byte (joined fields) ≡ true
joined_bytes [] all = refl
joined_bytes (f ∷ []) all = let parts = and_parts (list_all is_field_byte f) true all in all_append is_text_byte f [] (texts_have f parts.0) refl
joined_bytes (f ∷ g ∷ fs) all =
    let parts = and_parts (list_all is_field_byte f) (all_fields (g ∷ fs)) all in
    all_append is_text_byte f (44 ∷ joined (g ∷ fs)) (texts_have f parts.0) (both (is_text_byte 44) (list_all is_text_byte (joined (g ∷ fs))) refl (joined_bytes (g ∷ fs) parts.1))

-- a field and a comma before a text
pub comma_behind : (f t u : List ℕ) → t ≡ u → (f ++ 44 ∷ []) ++ t ≡ f ++ 44 ∷ u
comma_behind f t u same = append_assoc f (44 ∷ []) t ∙ ap (λ (x : List ℕ). f ++ 44 ∷ x) same
