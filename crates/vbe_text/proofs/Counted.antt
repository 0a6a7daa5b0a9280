-- What a text declares: as many bits as its tokens count, and these are within the limit.
use Rattle.std.proofs.Common.{◌≡◌, ℕ, suc, ◌+◌, ◌-◌, ◌*◌, ◌^◌, ◌==◌, ◌≤◌, ◌<◌, Bool, true, false, cond, min, nat_lt, bytes_eq, List, [], ◌∷◌, ◌++◌, length, Option, None, Some, Result, Ok, Err, inl, inr, refl, sym, ◌∙◌, ap, subst, arith, length-append, if◌then◌else◌}
use Rattle.std.specs.Prelude.{nat_le}
use Rattle.std.specs.BTreeSet.{insert_key}
use Rattle.std.specs.Cmp.Lexicographic.{slice_cmp}
use Rattle.std.specs.Ordering.{nat_cmp}
use Rattle.std.proofs.lemmas.List.{length-map}
use Rattle.vlsi_base.specs.declared.range.Range.{Range}
use Rattle.vlsi_base.specs.declared.entity.NewName.{NewName}
use Rattle.vlsi_base.specs.declared.entity.TypeWord.{TypeWord}
use Rattle.vlsi_base.specs.declared.entity.TypeWord.TheVariants as type
use Rattle.vlsi_base.specs.declared.entity.SignalType.{SignalType}
use Rattle.vlsi_base.specs.declared.entity.PortGroup.{PortGroup}
use Rattle.vlsi_base.specs.declared.entity.SignalGroup.{SignalGroup}
use Rattle.vlsi_base.specs.declared.entity.Entity.{Entity}
use Rattle.vlsi_base.specs.declared.entity.Declarations.{Declarations}
use Rattle.vlsi_base.specs.Range.{range_bits}
use Rattle.vlsi_base.proofs.Ranges.{length_of_range}
use Rattle.vhdl_token.specs.declared.keyword.Keyword.{Keyword}
use Rattle.vhdl_token.specs.declared.token.Tokens.{Tokens}
use Rattle.vhdl_token.specs.declared.keyword.Keyword.TheVariants as word
use Rattle.grammar_theory.specs.declared.form.Form.{Form}
use Rattle.grammar_theory.specs.declared.refusal.Breach.{Breach}
use Rattle.grammar_theory.specs.declared.refusal.Breach.TheVariants as broken
use Rattle.grammar_theory.specs.declared.limits.TheConstants.{BITS, CHAIN, DEPTH}
use Rattle.grammar_theory.specs.Marks.{Mark, plain, starts, chooses, again, opens, operator, declares, enters, counts, spells, fits, Item, State, uncounted, is_declared, acts, checked, step, go_on, run}
use Rattle.grammar_theory.specs.Grammar.{Grammar, nothing, marked, Then, ◌or◌, list}
use Rattle.vhdl_front.specs.Entity.{Names, width, range, scalar, vector, port_type, registered, signal_type, closed, port_behind, port, next_port, port_clause, ending, entity, signal, declarations}
use Rattle.source_checks.specs.declared.statement.DesignFile.{DesignFile}
use Rattle.source_checks.specs.declared.symbol_table.Role.{Role}
use Rattle.source_checks.specs.declared.symbol_table.Symbol.{Symbol}
use Rattle.source_checks.specs.Symbols.{role_of_mode, role_of_word, symbols_named, port_symbols, signal_symbols, symbols, bit_name, names_in, symbol_names, all_names}
use Rattle.vbe_text.specs.Source.{SourceTree, source_view}
use Rattle.vbe_text.specs.Vbe.{architecture, source, IsSource}

-- ---- what tokens count

abbrev counted : Mark → ℕ
counted plain = 0
counted starts = 0
counted chooses = 0
counted again = 0
counted (opens n) = 0
counted operator = 0
counted (declares line name) = 0
counted (enters key line name) = 0
counted (counts n) = n
counted (spells wanted found) = 0
counted (fits b) = 0

abbrev bits_in : List Item → ℕ
bits_in [] = 0
bits_in (i ∷ items) = counted i.mark + bits_in items

bits_in-append : (front back : List Item) → bits_in (front ++ back) ≡ bits_in front + bits_in back
bits_in-append [] back = omega arith
bits_in-append (i ∷ front) back = let rest = bits_in-append front back in omega (arith, rest)

-- so many bits more, within the limit
abbrev Adds : ℕ → State → State → Type 0
Adds n s t = (t.bits ≡ s.bits + n) × (t.bits ≤ BITS)

abbrev IsStep : Result State Breach → State → Type 0
IsStep r t = r ≡ Ok t

adds : (n : ℕ) (s u t : State) → IsStep (Ok u) t → Adds n s u → Adds n s t
adds n s u t e a = let same : u ≡ t = cc e in subst (Adds n s) same a

unless : (b : Bool) (which : Breach) (x : Result State Breach) (t : State) → IsStep (if b then Err which else x) t → (b ≡ false) × IsStep x t
unless true which x t e = absurd (cc e)
unless false which x t e = (refl, e)

where_so : (b : Bool) (which : Breach) (x : Result State Breach) (t : State) → IsStep (if b then x else Err which) t → IsStep x t
where_so true which x t e = e
where_so false which x t e = absurd (cc e)

within_limit : (n : ℕ) → nat_lt BITS n ≡ false → n ≤ BITS
within_limit n e = search (arith, e)

acts_adds : (m : Mark) (s t : State) → IsStep (acts m s) t → s.bits ≤ BITS → Adds (counted m) s t
acts_adds plain s t e few = adds 0 s s t e (omega arith, few)
acts_adds starts s t e few = adds 0 s (record s { operators = 0 }) t e (omega arith, few)
acts_adds chooses s t e few = adds 0 s (record s { operators = 0; alternatives = 1 }) t e (omega arith, few)
acts_adds again s t e few = adds 0 s (record s { operators = 0; alternatives = s.alternatives + 1 }) t e (omega arith, few)
acts_adds (opens n) s t e few = adds 0 s s t (unless (n == 0) broken.Depth (Ok s) t e).1 (omega arith, few)
acts_adds operator s t e few =
    let u = record s { operators = s.operators + 1 } in
    adds 0 s u t (where_so (nat_lt s.operators CHAIN) broken.Chain (Ok u) t e) (omega arith, few)
acts_adds (declares line name) s t e few =
    let u = record s { names = insert_key (slice_cmp nat_cmp) s.names name } in
    adds 0 s u t (unless (is_declared name s.names) (broken.Twice line name) (Ok u) t e).1 (omega arith, few)
acts_adds (enters key line name) s t e few =
    let u = record s { names = insert_key (slice_cmp nat_cmp) s.names (key ++ name) } in
    adds 0 s u t (unless (is_declared (key ++ name) s.names) (broken.Twice line name) (Ok u) t e).1 (omega arith, few)
acts_adds (counts n) s t e few =
    let u = record s { bits = s.bits + n } in
    let r = unless (nat_lt BITS (s.bits + n)) (broken.Bits (min (s.bits + n) (2 ^ 64 - 1))) (Ok u) t e in
    adds n s u t r.1 (refl, within_limit (s.bits + n) r.0)
acts_adds (spells wanted found) s t e few = adds 0 s s t (where_so (bytes_eq wanted found) broken.Spelling (Ok s) t e) (omega arith, few)
acts_adds (fits b) s t e few = adds 0 s s t (where_so b broken.Spelling (Ok s) t e) (omega arith, few)

step_adds : (m : Mark) (s t : State) → IsStep (step m s) t → s.bits ≤ BITS → Adds (counted m) s t
unfolding step
step_adds m s t e few = by (acts m s) refl e where
  by : (r : Result State Breach) → acts m s ≡ r → IsStep (checked s r) t → Adds (counted m) s t
  by (Ok u) is e = acts_adds m s t (is ∙ (unless (nat_lt CHAIN s.alternatives) broken.Chain (Ok u) t e).1) few
  by (Err b) is e = absurd (cc e)

run_adds : (items : List Item) (s t : State) → IsStep (run items s) t → s.bits ≤ BITS → Adds (bits_in items) s t
run_adds [] s t e few = adds 0 s s t e (omega arith, few)
run_adds (i ∷ items) s t e few = by (step i.mark s) refl e (λ u. run_adds items u t) where
  by : (r : Result State Breach) → step i.mark s ≡ r → IsStep (go_on r (run items)) t
      → ((u : State) → IsStep (run items u) t → u.bits ≤ BITS → Adds (bits_in items) u t) → Adds (bits_in (i ∷ items)) s t
  by (Ok u) is e rest =
      let one = step_adds i.mark s u is few in
      let behind = rest u e one.1 in
      (let a = one.0 in let b = behind.0 in omega (arith, a, b), behind.1)
  by (Err b) is e rest = absurd (cc e)

-- ---- grammars

-- where so much was counted before, each value is within what was counted with its sentence
record Weighs {A : Type 0} (G : Grammar A) (k : ℕ) (f : A → ℕ) : Type 0 where
  pub each : (items : List Item) (v : A) → G items v → f v ≤ k + bits_in items

weighs_then : {A C : Type 0} {L : Grammar A} {M : A → Grammar C} {k : ℕ} {f : A → ℕ} {g : C → ℕ} → Weighs L k f → ((x : A) (n : ℕ) → f x ≤ n → Weighs (M x) n g)
    → Weighs (Then L M) k g
weighs_then {A} {C} {L} {M} {k} {f} {g} one two = record {
  each = λ items v h.
      let first = one.each h.front h.value h.before in
      let second = (two h.value (k + bits_in h.front) first).each h.back v h.behind in
      let all = ap bits_in h.parts in
      let both = bits_in-append h.front h.back in
      omega (arith, second, all, both);
}

-- the first part counts nothing of it
weighs_behind : {A C : Type 0} {L : Grammar A} {M : A → Grammar C} {k : ℕ} {g : C → ℕ} → ((x : A) → Weighs (M x) k g) → Weighs (Then L M) k g
weighs_behind {A} {C} {L} {M} {k} {g} two = record {
  each = λ items v h.
      let second = (two h.value).each h.back v h.behind in
      let all = ap bits_in h.parts in
      let both = bits_in-append h.front h.back in
      omega (arith, second, all, both);
}

weighs_or : {A : Type 0} {L M : Grammar A} {k : ℕ} {f : A → ℕ} → Weighs L k f → Weighs M k f → Weighs (L or M) k f
weighs_or {A} {L} {M} {k} {f} one two = record { each = λ items v h. elim h [ inl a ↦ one.each items v a | inr b ↦ two.each items v b ] }

weighs_nothing : {A : Type 0} (f : A → ℕ) (k : ℕ) (x : A) → f x ≤ k → Weighs (nothing x) k f
weighs_nothing {A} f k x less = record { each = λ items v h. subst (λ (y : A). f y ≤ k + bits_in items) (sym h.1) (omega (arith, less)) }

weighs_counted : (w : Form) (c : ℕ) → Weighs (marked w (λ _. counts c)) 0 (λ _. c)
weighs_counted w c = record { each = λ items v h. let e = ap bits_in h.alone in omega (arith, e) }

abbrev total : {A : Type 0} → (A → ℕ) → List A → ℕ
total f [] = 0
total f (x ∷ xs) = f x + total f xs

list_each : {A : Type 0} (L : Grammar A) (f : A → ℕ) → Weighs L 0 f → (items : List Item) (vs : List A) → list L items vs → total f vs ≤ bits_in items
list_each L f one items [] h = omega arith
list_each L f one items (v ∷ vs) h =
    let first = one.each h.0 v h.3 in
    let rest = list_each L f one h.1 vs h.4 in
    let all = ap bits_in h.2 in
    let both = bits_in-append h.0 h.1 in
    omega (arith, first, rest, all, both)

weighs_list : {A : Type 0} {L : Grammar A} {f : A → ℕ} (c k : ℕ) → Weighs L 0 f → c ≤ k → Weighs (list L) k (λ vs. c + total f vs)
weighs_list {A} {L} {f} c k one less = record { each = λ items vs h. let rest = list_each L f one items vs h in omega (arith, rest, less) }

-- ---- types

abbrev pub width_of : Option Range → ℕ
width_of None = 1
width_of (Some r) = width r.left r.falls r.right

abbrev type_bits : ℕ → SignalType → ℕ
type_bits count kind = count * width_of kind.range

weighs_range : (room count : ℕ) → Weighs (range room count) 0 (λ r. count * width_of (Some r))
unfolding range
weighs_range room count =
    weighs_behind (λ t. weighs_behind (λ b. weighs_then (weighs_counted _ (count * width b.0 b.1 b.2)) (λ u n less.
    weighs_nothing (λ (r : Range). count * width_of (Some r)) n (record { left = b.0; falls = b.1; right = b.2; line = t.line }) less)))

weighs_scalar : (w : Keyword) (kind : TypeWord) (count : ℕ) → Weighs (scalar w kind count) 0 (type_bits count)
unfolding scalar
weighs_scalar w kind count =
    weighs_then (weighs_counted _ (count * 1)) (λ t n less. weighs_nothing (type_bits count) n (record { word = kind; line = t.line; range = None }) less)

weighs_vector : (w : Keyword) (kind : TypeWord) (room count : ℕ) → Weighs (vector w kind room count) 0 (type_bits count)
unfolding vector
weighs_vector w kind room count =
    weighs_behind (λ t. weighs_then (weighs_range room count) (λ r n less. weighs_nothing (type_bits count) n (record { word = kind; line = t.line; range = Some r }) less))

weighs_port_type : (room count : ℕ) → Weighs (port_type room count) 0 (type_bits count)
unfolding port_type
weighs_port_type room count =
    weighs_or (weighs_scalar word.Bit type.Bit count)
    (weighs_or (weighs_vector word.BitVector type.BitVector room count)
    (weighs_or (weighs_scalar word.MuxBit type.MuxBit count)
    (weighs_or (weighs_scalar word.WorBit type.WorBit count)
    (weighs_or (weighs_vector word.MuxVector type.MuxVector room count)
    (weighs_vector word.WorVector type.WorVector room count)))))

weighs_registered : {L : Grammar SignalType} (count : ℕ) → Weighs L 0 (type_bits count) → Weighs (registered L) 0 (type_bits count)
unfolding registered
weighs_registered {L} count one = weighs_then one (λ kind n less. weighs_behind (λ t. weighs_nothing (type_bits count) n kind less))

weighs_signal_type : (room count : ℕ) → Weighs (signal_type room count) 0 (type_bits count)
unfolding signal_type
weighs_signal_type room count =
    weighs_or (weighs_scalar word.Bit type.Bit count)
    (weighs_or (weighs_vector word.BitVector type.BitVector room count)
    (weighs_or (weighs_registered count (weighs_scalar word.RegBit type.RegBit count))
    (weighs_or (weighs_registered count (weighs_vector word.RegVector type.RegVector room count))
    (weighs_registered count (weighs_vector word.RegBitVector type.RegBitVector room count)))))

-- ---- ports and signals

abbrev bits_of_ports : PortGroup → ℕ
bits_of_ports g = length g.names * width_of g.kind.range

abbrev bits_of_signals : SignalGroup → ℕ
bits_of_signals g = length g.names * width_of g.kind.range

weighs_port_behind : (room : ℕ) (n : Names) → Weighs (port_behind room n) 0 bits_of_ports
unfolding port_behind
weighs_port_behind room n =
    weighs_behind (λ t. weighs_behind (λ m. weighs_then (weighs_port_type room (length n.1)) (λ kind k less. weighs_behind (λ b.
    weighs_nothing bits_of_ports k (record { line = n.0; names = n.1; mode = m.0; mode_line = m.1; kind = kind; bus = b }) less))))

weighs_port : (room : ℕ) → Weighs (port room) 0 bits_of_ports
unfolding port
weighs_port room = weighs_behind (λ n. weighs_port_behind room n)

weighs_next_port : (room : ℕ) → Weighs (next_port room) 0 bits_of_ports
unfolding next_port
weighs_next_port room = weighs_behind (λ t. weighs_port room)

weighs_closed : {A : Type 0} (f : A → ℕ) (k : ℕ) (x : A) → f x ≤ k → Weighs (closed x) k f
unfolding closed
weighs_closed f k x less = weighs_behind (λ t. weighs_behind (λ u. weighs_nothing f k x less))

weighs_port_clause : (room : ℕ) → Weighs (port_clause room) 0 (total bits_of_ports)
unfolding port_clause
weighs_port_clause room =
    weighs_behind (λ t. weighs_behind (λ u. weighs_then (weighs_port (room - 1)) (λ first k less.
    weighs_then (weighs_list (bits_of_ports first) k (weighs_next_port (room - 1)) less) (λ others n more.
    weighs_closed (total bits_of_ports) n (first ∷ others) more))))

weighs_ending : {A : Type 0} (f : A → ℕ) (k : ℕ) (name : List ℕ) (x : A) → f x ≤ k → Weighs (ending name x) k f
unfolding ending
weighs_ending f k name x less =
    weighs_behind (λ t. weighs_or (weighs_behind (λ u. weighs_behind (λ w. weighs_nothing f k x less))) (weighs_behind (λ w. weighs_nothing f k x less)))

abbrev bits_of_entity : Entity → ℕ
bits_of_entity e = total bits_of_ports e.ports

weighs_entity : (room : ℕ) → Weighs (entity room) 0 bits_of_entity
unfolding entity
weighs_entity room =
    weighs_behind (λ name. weighs_behind (λ generics. weighs_then (weighs_port_clause room) (λ ports k less.
    weighs_ending bits_of_entity k name (record { name = name; generics = generics; ports = ports }) less)))

weighs_signal : (room : ℕ) → Weighs (signal room) 0 bits_of_signals
unfolding signal
weighs_signal room =
    weighs_behind (λ n. weighs_behind (λ t. weighs_then (weighs_signal_type room (length n.1)) (λ kind k less. weighs_behind (λ u.
    weighs_nothing bits_of_signals k (record { line = n.0; names = n.1; kind = kind }) less))))

weighs_declarations : (room c k : ℕ) → c ≤ k → Weighs (declarations room) k (λ d. c + total bits_of_signals d.signals)
unfolding declarations
weighs_declarations room c k less =
    weighs_then (weighs_list c k (weighs_signal room) less) (λ all n more.
    weighs_nothing (λ (d : Declarations). c + total bits_of_signals d.signals) n (record { signals = all }) more)

-- ---- whole texts

abbrev bits_of_source : SourceTree → ℕ
bits_of_source s = bits_of_entity s.entity + total bits_of_signals s.declarations.signals

weighs_architecture : (room k : ℕ) (e : Entity) → bits_of_entity e ≤ k → Weighs (architecture room e) k bits_of_source
unfolding architecture
weighs_architecture room k e less =
    weighs_behind (λ name. weighs_then (weighs_declarations room (bits_of_entity e) k less) (λ d n more. weighs_behind (λ all. weighs_behind (λ u.
    weighs_nothing bits_of_source n (record { entity = e; declarations = d; statements = all }) more))))

weighs_source : (room : ℕ) → Weighs (source room) 0 bits_of_source
unfolding source
weighs_source room = weighs_then (weighs_entity room) (λ e k less. weighs_architecture room k e less)

source_few : (tokens : Tokens) (s : SourceTree) → IsSource tokens s → bits_of_source s ≤ BITS
source_few tokens s is =
    let a = is.read.0 in
    let weighs = (weighs_source DEPTH).each a.front s a.sentence in
    let counted = run_adds a.front uncounted is.end.state a.clean (omega arith) in
    let bits = counted.0 in
    let most = counted.1 in
    omega (arith, weighs, bits, most)

-- ---- symbols

span : (low high : ℕ) → high + 1 - low ≡ (if nat_le low high then high - low + 1 else 0)
span low high = by (nat_le low high) refl where
  by : (b : Bool) → nat_le low high ≡ b → high + 1 - low ≡ (if b then high - low + 1 else 0)
  by true e = let less : low ≤ high = search (arith, e) in omega (arith, less)
  by false e = let less : high < low = search (arith, e) in omega (arith, less)

range_long : (r : Range) → length (range_bits r) ≡ width r.left r.falls r.right
range_long r = length_of_range r ∙ by r.falls where
  by : (b : Bool) → cond b (r.left + 1 - r.right) (r.right + 1 - r.left) ≡ width r.left b r.right
  by true = span r.right r.left
  by false = span r.left r.right

names_long : (text : List ℕ) (o : Option Range) → length (names_in text o) ≡ width_of o
names_long text None = refl
names_long text (Some r) = length-map (range_bits r) (bit_name text) ∙ range_long r

pub named_long : (r : Role) (o : Option Range) (line : ℕ) (ns : List NewName) → length (all_names (symbols_named r o line ns)) ≡ length ns * width_of o
named_long r o line [] = omega arith
named_long r o line (n ∷ ns) =
    let all = length-append (names_in n.text o) (all_names (symbols_named r o line ns)) in
    let first = names_long n.text o in
    let rest = named_long r o line ns in
    one_more (width_of o) (length ns) _ _ _ all first rest
  where
    one_more : (w n all first rest : ℕ) → all ≡ first + rest → first ≡ w → rest ≡ n * w → all ≡ suc n * w
    one_more w n all first rest a b c = omega (arith, a, b, c)

pub all_long : (xs ys : List Symbol) → length (all_names (xs ++ ys)) ≡ length (all_names xs) + length (all_names ys)
all_long [] ys = omega arith
all_long (s ∷ xs) ys =
    let a = length-append (symbol_names s) (all_names (xs ++ ys)) in
    let b = length-append (symbol_names s) (all_names xs) in
    let c = all_long xs ys in
    omega (arith, a, b, c)

ports_long : (groups : List PortGroup) → length (all_names (port_symbols groups)) ≡ total bits_of_ports groups
ports_long [] = refl
ports_long (g ∷ groups) =
    let a = all_long (symbols_named (role_of_mode g.mode) g.kind.range g.line g.names) (port_symbols groups) in
    let b = named_long (role_of_mode g.mode) g.kind.range g.line g.names in
    let c = ports_long groups in
    a ∙ (λ j. b j + c j)

signals_long : (groups : List SignalGroup) → length (all_names (signal_symbols groups)) ≡ total bits_of_signals groups
signals_long [] = refl
signals_long (g ∷ groups) =
    let a = all_long (symbols_named (role_of_word g.kind.word) g.kind.range g.line g.names) (signal_symbols groups) in
    let b = named_long (role_of_word g.kind.word) g.kind.range g.line g.names in
    let c = signals_long groups in
    a ∙ (λ j. b j + c j)

-- a data-flow text declares no more bits than the limit
pub declared_few : (tokens : Tokens) (design : DesignFile) → IsSource tokens (source_view design) → length (all_names (symbols design)) ≤ BITS
declared_few tokens design is =
    let all = all_long (port_symbols design.entity.ports) (signal_symbols design.declarations.signals) in
    let ports = ports_long design.entity.ports in
    let signals = signals_long design.declarations.signals in
    let few = source_few tokens (source_view design) is in
    omega (arith, all, ports, signals, few)

-- nor does an entity that stands in front of what is accepted
pub entity_few : {A : Type 0} {M : Entity → Grammar A} (items : List Item) (v : A) (s : Then (entity DEPTH) M items v) (t : State) → run items uncounted ≡ Ok t
    → length (all_names (port_symbols s.value.ports)) ≤ BITS
entity_few items v s t clean =
    let weighs = (weighs_entity DEPTH).each s.front s.value s.before in
    let all = ap bits_in s.parts in
    let both = bits_in-append s.front s.back in
    let counted = run_adds items uncounted t clean (omega arith) in
    let ports = ports_long s.value.ports in
    let bits = counted.0 in
    let most = counted.1 in
    omega (arith, weighs, all, both, ports, bits, most)

-- nor one alone
pub ports_few : (items : List Item) (e : Entity) (t : State) → entity DEPTH items e → run items uncounted ≡ Ok t → length (all_names (port_symbols e.ports)) ≤ BITS
ports_few items e t sentence clean =
    let weighs = (weighs_entity DEPTH).each items e sentence in
    let counted = run_adds items uncounted t clean (omega arith) in
    let ports = ports_long e.ports in
    let bits = counted.0 in
    let most = counted.1 in
    omega (arith, weighs, ports, bits, most)
