-- Cells by numbers: the pins' names as numbers, and the checks.
use Rattle.std.proofs.Common.{◌≡◌, ◌≢◌, ℕ, zero, suc, ◌*◌, ◌<◌, ◌⊎◌, inl, inr, Bool, true, false, ◌&&◌, List, [], ◌∷◌, map, length, Option, Some, None, refl, sym, ap, ◌∙◌, subst, arith, if◌then◌else◌}
use Rattle.std.specs.Prelude.{ℤ, pos, slice_get, ◌/◌}
use Rattle.std.proofs.lemmas.Bool.{eqb-true, eq-eqb}
use Rattle.std.proofs.Math.Nat.{mul-div_cancel_left}
use Rattle.std.specs.Cmp.Lexicographic.{bytes_decides}
use Rattle.vlsi_base.specs.declared.name.Name as name
use Rattle.machine_core.specs.Named.{is_same_text, is_same_bit, is_same_name}
use Rattle.machine_core.specs.Machine.{names_of}
use Rattle.vlsi_base.specs.Member as member
use Rattle.sym_shapes.specs.Shape as shape
use Rattle.sym_shapes.specs.Shape.{drawn, connector_names}
use Rattle.sym_shapes.specs.Joined as joined
use Rattle.cell_model.specs.Cell.{pin_ports}
use Rattle.cell_model.specs.Cell as cells
use Rattle.vlsi_base.specs.Names.{vdd, vss}
use Rattle.ocp_rows.specs.Placement.{natural}
use Rattle.cell_model.specs.Access.{access_point}
use Rattle.sym_shapes.proofs.Labels.{first_In}
use Rattle.block_geom.specs.Figure.{Vss, Vdd, Shape, Name, Power, Bit, In}
use Rattle.block_geom.specs.Joined.{Linked, touching, one_line, one_name, Joined, same, link}
use Rattle.block_geom.specs.Block.{Cell}
use Rattle.block_geom.proofs.Lists.{In_map_cases, In_map}
use Rattle.net_drawing.specs.Picture.{option_map}

-- ---- names
and_parts : (a b : Bool) → (a && b) ≡ true → (a ≡ true) × (b ≡ true)
and_parts true true h = (refl, refl)
and_parts true false h = (refl, h)
and_parts false b h = absurd (cc)

same_bit_true : (a b : Option ℕ) → is_same_bit a b ≡ true → a ≡ b
same_bit_true None None h = refl
same_bit_true None (Some b) h = absurd (cc)
same_bit_true (Some a) None h = absurd (cc)
same_bit_true (Some a) (Some b) h = ap (λ x. Some x) (eqb-true a b h)

same_bit_itself : (a : Option ℕ) → is_same_bit a a ≡ true
same_bit_itself None = refl
same_bit_itself (Some a) = eq-eqb a a refl

pub same_name_true : (a b : name.Name) → is_same_name a b ≡ true → a ≡ b
same_name_true a b h =
    let parts = and_parts (is_same_text a.text b.text) (is_same_bit a.bit b.bit) h in
    let made : List ℕ → Option ℕ → name.Name = λ text bit. record { text = text; bit = bit } in
    ap (λ text. made text a.bit) ((bytes_decides a.text b.text).0 parts.0) ∙ ap (λ bit. made b.text bit) (same_bit_true a.bit b.bit parts.1)

pub same_name_itself : (a : name.Name) → is_same_name a a ≡ true
same_name_itself a = rw ((bytes_decides a.text a.text).1 refl, same_bit_itself a.bit) refl

pub same_name_false : (a b : name.Name) → a ≢ b → is_same_name a b ≡ false
same_name_false a b apart = by (is_same_name a b) refl where
  by : (r : Bool) → is_same_name a b ≡ r → is_same_name a b ≡ false
  by true e = absurd (apart (same_name_true a b e))
  by false e = e

-- the place of a name
abbrev pub index_of : List name.Name → name.Name → ℕ
index_of [] m = 0
index_of (x ∷ xs) m = if is_same_name x m then 0 else suc (index_of xs m)

index_step : (x : name.Name) (xs : List name.Name) (m : name.Name) → (member.In m xs → slice_get xs (index_of xs m) ≡ Some m) → (r : Bool) → is_same_name x m ≡ r → member.In m (x ∷ xs) → slice_get (x ∷ xs) (if r then 0 else suc (index_of xs m)) ≡ Some m
index_step x xs m next true e k = ap (λ v. Some v) (same_name_true x m e)
index_step x xs m next false e member.here = absurd (let a = same_name_itself m in let f : true ≡ false = sym a ∙ e in cc f)
index_step x xs m next false e (member.there k) = next k

pub index_get : (xs : List name.Name) (m : name.Name) → member.In m xs → slice_get xs (index_of xs m) ≡ Some m
index_get [] m h = elim h [ ]
index_get (x ∷ xs) m h = index_step x xs m (index_get xs m) (is_same_name x m) refl h

pub In_get : {A : Type 0} (xs : List A) (k : ℕ) (x : A) → slice_get xs k ≡ Some x → member.In x xs
In_get [] k x e = absurd (cc e)
In_get (y ∷ ys) zero x e = let f : y ≡ x = cc in subst (λ v. member.In v (y ∷ ys)) f member.here
In_get (y ∷ ys) (suc k) x e = member.there (In_get ys k x e)

pub get_In : {A : Type 0} (xs : List A) (x : A) → member.In x xs → (k : ℕ) × (slice_get xs k ≡ Some x)
get_In [] x h = elim h [ ]
get_In (y ∷ ys) x member.here = (0, refl)
get_In (y ∷ ys) x (member.there h) = let r = get_In ys x h in (suc r.0, r.1)

pub get_there : {A : Type 0} (xs : List A) (k : ℕ) → k < length xs → (x : A) × (slice_get xs k ≡ Some x)
get_there [] k lt = absurd (omega arith)
get_there (y ∷ ys) zero lt = (y, refl)
get_there (y ∷ ys) (suc k) lt = get_there ys k (omega arith)

abbrev pub name_or : Option name.Name → name.Name
name_or None = vdd
name_or (Some m) = m

-- the number of a name, where the signals have these names; and the name of a number
abbrev pub code : List name.Name → name.Name → Name
code xs m = if is_same_name m vdd then Power Vdd else if is_same_name m vss then Power Vss else Bit (index_of xs m)

abbrev pub decode : List name.Name → Name → name.Name
decode xs (Power Vdd) = vdd
decode xs (Power Vss) = vss
decode xs (Bit k) = name_or (slice_get xs k)

-- a supply's name, or one of these
abbrev pub IsOneOf : List name.Name → name.Name → Type 0
IsOneOf xs m = (m ≡ vdd) ⊎ ((m ≡ vss) ⊎ member.In m xs)

pub code_decode : (xs : List name.Name) (m : name.Name) → IsOneOf xs m → decode xs (code xs m) ≡ m
code_decode xs m h = by (is_same_name m vdd) (is_same_name m vss) refl refl h
  where
    by : (r q : Bool) → is_same_name m vdd ≡ r → is_same_name m vss ≡ q → IsOneOf xs m → decode xs (if r then Power Vdd else if q then Power Vss else Bit (index_of xs m)) ≡ m
    by true q e f k = sym (same_name_true m vdd e)
    by false true e f k = sym (same_name_true m vss f)
    by false false e f (inl k) = absurd (let a = same_name_itself vdd in let c : is_same_name m vdd ≡ true = subst (λ v. is_same_name v vdd ≡ true) (sym k) a in let d : true ≡ false = sym c ∙ e in cc d)
    by false false e f (inr (inl k)) = absurd (let a = same_name_itself vss in let c : is_same_name m vss ≡ true = subst (λ v. is_same_name v vss ≡ true) (sym k) a in let d : true ≡ false = sym c ∙ f in cc d)
    by false false e f (inr (inr k)) = ap name_or (index_get xs m k)

-- ---- cells
abbrev pub coded : List name.Name → shape.Shape → Shape
coded xs s = record { metal = s.metal; rect = s.rect; owner = None; line = s.line; name = option_map (code xs) s.name }

abbrev pub column_of : Option (ℤ × ℤ) → ℕ
column_of None = 0
column_of (Some q) = natural q.0 / 500

abbrev pub row_of : Option (ℤ × ℤ) → ℕ
row_of None = 0
row_of (Some q) = natural q.1 / 500

abbrev pub cell_by : cells.Cell → Cell
cell_by c = record {
  width = natural c.bounds.x2 / 500;
  shapes = map (coded (names_of (pin_ports c))) (drawn c.items);
  pins = length (names_of (pin_ports c));
  column = λ p. column_of (access_point c (name_or (slice_get (names_of (pin_ports c)) p)));
  row = λ p. row_of (access_point c (name_or (slice_get (names_of (pin_ports c)) p)));
}

-- a link in a cell is one by numbers, and the other way round
up_linked : (xs : List name.Name) (s t : shape.Shape) → joined.Linked s t → Linked (coded xs s) (coded xs t)
up_linked xs s t (joined.touching m h) = touching m h
up_linked xs s t (joined.one_line o l) = one_line refl l
up_linked xs s t (joined.one_name o n p q) = one_name refl (code xs n) (ap (option_map (code xs)) p) (ap (option_map (code xs)) q)

pub In_list : {A : Type 0} (xs : List A) (x : A) → member.In x xs → In x xs
In_list [] x h = elim h [ ]
In_list (y ∷ ys) x member.here = inl refl
In_list (y ∷ ys) x (member.there h) = inr (In_list ys x h)

pub In_member : {A : Type 0} (xs : List A) (x : A) → In x xs → member.In x xs
In_member [] x h = absurd h
In_member (y ∷ ys) x (inl e) = subst (λ v. member.In v (y ∷ ys)) (sym e) member.here
In_member (y ∷ ys) x (inr h) = member.there (In_member ys x h)

pub coded_in : (xs : List name.Name) (ss : List shape.Shape) (s : shape.Shape) → member.In s ss → In (coded xs s) (map (coded xs) ss)
coded_in xs ss s h = In_map (coded xs) ss s (In_list ss s h)

pub coded_cases : (xs : List name.Name) (ss : List shape.Shape) (y : Shape) → In y (map (coded xs) ss) → (s : shape.Shape) × member.In s ss × (y ≡ coded xs s)
coded_cases xs ss y h = let r = In_map_cases (coded xs) ss y h in (r.0, In_member ss r.0 r.1, r.2)

pub up_joined : (xs : List name.Name) (ss : List shape.Shape) (s t : shape.Shape) → joined.Joined ss s t → Joined (map (coded xs) ss) (coded xs s) (coded xs t)
up_joined xs ss s t (joined.itself h) = same
up_joined xs ss s t (joined.through {b = d} h l j) = link (coded_in xs ss d (first_In j)) (up_linked xs s d l) (up_joined xs ss d t j)

-- the shape of a number's shape
abbrev pub decoded : List name.Name → Shape → shape.Shape
decoded xs s = record { metal = s.metal; rect = s.rect; owner = None; line = s.line; name = option_map (decode xs) s.name }

abbrev pub IsPlain : List name.Name → shape.Shape → Type 0
IsPlain xs s = (s.owner ≡ None) × ((m : name.Name) → s.name ≡ Some m → IsOneOf xs m)

pub name_back : (xs : List name.Name) (o : Option name.Name) → ((m : name.Name) → o ≡ Some m → IsOneOf xs m) → option_map (decode xs) (option_map (code xs) o) ≡ o
name_back xs None f = refl
name_back xs (Some m) f = ap (λ v. Some v) (code_decode xs m (f m refl))

pub decoded_coded : (xs : List name.Name) (s : shape.Shape) → IsPlain xs s → decoded xs (coded xs s) ≡ s
decoded_coded xs s (o, f) =
    ap (λ v. record { metal = s.metal; rect = s.rect; owner = v; line = s.line; name = option_map (decode xs) (option_map (code xs) s.name) }) (sym o)
    ∙ ap (λ v. record { metal = s.metal; rect = s.rect; owner = s.owner; line = s.line; name = v }) (name_back xs s.name f)

down_linked : (xs : List name.Name) (s t : Shape) → Linked s t → joined.Linked (decoded xs s) (decoded xs t)
down_linked xs s t (touching m h) = joined.touching m h
down_linked xs s t (one_line o l) = joined.one_line refl l
down_linked xs s t (one_name o n p q) = joined.one_name refl (decode xs n) (ap (option_map (decode xs)) p) (ap (option_map (decode xs)) q)

pub down_joined : (xs : List name.Name) (ss : List shape.Shape) → ((s : shape.Shape) → member.In s ss → IsPlain xs s) → (y z : Shape) → In y (map (coded xs) ss) → Joined (map (coded xs) ss) y z → joined.Joined ss (decoded xs y) (decoded xs z)
down_joined xs ss plain y z h same = let r = coded_cases xs ss y h in joined.itself (subst (λ v. member.In v ss) (sym (decoded_coded xs r.0 (plain r.0 r.1)) ∙ ap (decoded xs) (sym r.2)) r.1)
down_joined xs ss plain y z h (link {b = d} k l j) =
    let r = coded_cases xs ss y h in
    joined.through (subst (λ v. member.In v ss) (sym (decoded_coded xs r.0 (plain r.0 r.1)) ∙ ap (decoded xs) (sym r.2)) r.1) (down_linked xs y d l) (down_joined xs ss plain d z k j)

pub name_of : {A B : Type 0} (f : A → B) (o : Option A) (x : B) → option_map f o ≡ Some x → (m : A) × (o ≡ Some m) × (f m ≡ x)
name_of f None x e = absurd (cc e)
name_of f (Some m) x e = (m, refl, cc)

pub columns_of : (k : ℕ) → natural (pos (500 * k)) / 500 ≡ k
columns_of k = mul-div_cancel_left k (omega arith)

pub code_bit : (xs : List name.Name) (m : name.Name) (p : ℕ) → code xs m ≡ Bit p → p ≡ index_of xs m
code_bit xs m p e = by (is_same_name m vdd) (is_same_name m vss) e
  where
    by : (r q : Bool) → (if r then Power Vdd else if q then Power Vss else Bit (index_of xs m)) ≡ Bit p → p ≡ index_of xs m
    by true q f = absurd (cc f)
    by false true f = absurd (cc f)
    by false false f = sym (ap (λ v. number v) f)
      where
        number : Name → ℕ
        number (Power u) = 0
        number (Bit k) = k
