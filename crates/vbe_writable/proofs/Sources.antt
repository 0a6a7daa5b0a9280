-- The names that a data-flow text declares are words of at most 64 bytes, and the bounds of its ranges have 32 bits.
use Rattle.std.proofs.Common.{◌-◌, ◌*◌, ◌^◌, ◌<◌, ℕ, Bool, List, [], ◌∷◌, length, Option, None, Some, subst}
use Rattle.vlsi_base.specs.declared.range.Range.{Range}
use Rattle.vlsi_base.specs.declared.entity.NewName.{NewName}
use Rattle.vlsi_base.specs.declared.entity.TypeWord.{TypeWord}
use Rattle.vlsi_base.specs.declared.entity.TypeWord.TheVariants as type
use Rattle.vlsi_base.specs.declared.entity.SignalType.{SignalType}
use Rattle.vlsi_base.specs.declared.entity.PortGroup.{PortGroup}
use Rattle.vlsi_base.specs.declared.entity.SignalGroup.{SignalGroup}
use Rattle.vlsi_base.specs.declared.entity.Entity.{Entity}
use Rattle.vlsi_base.specs.declared.entity.Declarations.{Declarations}
use Rattle.vhdl_token.specs.declared.keyword.Keyword.{Keyword}
use Rattle.vhdl_token.specs.declared.keyword.Keyword.TheVariants as word
use Rattle.grammar_theory.specs.Marks.{plain, declares}
use Rattle.grammar_theory.specs.Grammar.{Grammar}
use Rattle.grammar_theory.specs.declared.limits.TheConstants.{DEPTH}
use Rattle.vhdl_front.specs.Cursor.{name_of, number_of}
use Rattle.vhdl_front.specs.Expression.{number}
use Rattle.vhdl_front.specs.Entity.{Names, new_name, identifier, declared, another, led_names, declared_here, own_names, names, bounds, range, scalar, vector, port_type, registered, signal_type, closed, port_behind, port, next_port, port_clause, entity_head, ending, entity, signal, declarations}
use Rattle.source_checks.specs.declared.statement.DesignFile.{DesignFile}
use Rattle.source_checks.specs.declared.symbol_table.Role.{Role}
use Rattle.source_checks.specs.declared.symbol_table.Symbol.{Symbol}
use Rattle.source_checks.specs.Symbols.{role_of_mode, role_of_word, symbols_named, port_symbols, signal_symbols, symbols}
use Rattle.vbe_text.specs.Source.{SourceTree, source_view}
use Rattle.vbe_text.specs.Vbe.{architecture, source}
use Rattle.vbe_io.specs.Text.{IsWritten}
use Rattle.vbe_writable.proofs.Cut.{IsShortWord, AreNamed, named_in}
use Rattle.vbe_writable.proofs.Saying.{Every, every_append, words_of, Says, says_then, says_behind, says_or, says_nothing, says_list, says_name, says_number}

-- ---- names

abbrev pub IsNewWord : NewName → Type 0
IsNewWord n = IsShortWord n.text

says_identifier : Says identifier IsShortWord
unfolding identifier
says_identifier = says_then (says_name (λ _. plain)) (λ t h. says_nothing IsShortWord (name_of t) h)

says_declared : (line : ℕ) → Says (declared line) IsNewWord
unfolding declared
says_declared line = says_then (says_name (λ t. declares line (name_of t))) (λ t h. says_nothing IsNewWord (new_name t) h)

says_another : (line : ℕ) → Says (another line) IsNewWord
unfolding another
says_another line = says_behind (λ t. says_declared line)

abbrev AreNewWords : Names → Type 0
AreNewWords n = Every IsNewWord n.1

says_led : (w : Keyword) → Says (led_names w) AreNewWords
unfolding led_names
says_led w =
    says_behind (λ t. says_then (says_declared t.line) (λ first h. says_then (says_list (says_another t.line)) (λ others hs.
    says_nothing AreNewWords (t.line, first ∷ others) (h, hs))))

says_here : Says declared_here IsNewWord
unfolding declared_here
says_here = says_then (says_name (λ t. declares t.line (name_of t))) (λ t h. says_nothing IsNewWord (new_name t) h)

says_own : Says own_names AreNewWords
unfolding own_names
says_own =
    says_then says_here (λ first h. says_then (says_list (says_another first.line)) (λ others hs.
    says_nothing AreNewWords (first.line, first ∷ others) (h, hs)))

says_names : (w : Keyword) → Says (names w) AreNewWords
unfolding names
says_names w = says_or (says_led w) says_own

-- ---- types

abbrev pub IsSmall : ℕ → Type 0
IsSmall n = n < 2 ^ 32

-- the bounds of a range have 32 bits
abbrev pub IsSmallRange : Option Range → Type 0
IsSmallRange None = Unit {0}
IsSmallRange (Some r) = IsSmall r.left × IsSmall r.right

says_a_number : Says number IsSmall
unfolding number
says_a_number = says_then (says_number (λ _. plain)) (λ t h. says_nothing IsSmall (number_of t) h)

abbrev AreSmallBounds : ℕ × Bool × ℕ → Type 0
AreSmallBounds b = IsSmall b.0 × IsSmall b.2

says_bounds : Says bounds AreSmallBounds
unfolding bounds
says_bounds =
    says_then says_a_number (λ left h. says_behind (λ falls. says_then says_a_number (λ right g.
    says_nothing AreSmallBounds (left, falls, right) (h, g))))

says_range : (room count : ℕ) → Says (range room count) (λ r. IsSmallRange (Some r))
unfolding range
says_range room count =
    says_behind (λ t. says_then says_bounds (λ b h. says_behind (λ u.
    says_nothing (λ (r : Range). IsSmallRange (Some r)) (record { left = b.0; falls = b.1; right = b.2; line = t.line }) h)))

abbrev IsSmallType : SignalType → Type 0
IsSmallType kind = IsSmallRange kind.range

says_scalar : (w : Keyword) (kind : TypeWord) (count : ℕ) → Says (scalar w kind count) IsSmallType
unfolding scalar
says_scalar w kind count = says_behind (λ t. says_nothing IsSmallType (record { word = kind; line = t.line; range = None }) tt)

says_vector : (w : Keyword) (kind : TypeWord) (room count : ℕ) → Says (vector w kind room count) IsSmallType
unfolding vector
says_vector w kind room count =
    says_behind (λ t. says_then (says_range room count) (λ r h. says_nothing IsSmallType (record { word = kind; line = t.line; range = Some r }) h))

says_port_type : (room count : ℕ) → Says (port_type room count) IsSmallType
unfolding port_type
says_port_type room count =
    says_or (says_scalar word.Bit type.Bit count)
    (says_or (says_vector word.BitVector type.BitVector room count)
    (says_or (says_scalar word.MuxBit type.MuxBit count)
    (says_or (says_scalar word.WorBit type.WorBit count)
    (says_or (says_vector word.MuxVector type.MuxVector room count)
    (says_vector word.WorVector type.WorVector room count)))))

says_registered : {L : Grammar SignalType} → Says L IsSmallType → Says (registered L) IsSmallType
unfolding registered
says_registered {L} one = says_then one (λ kind h. says_behind (λ t. says_nothing IsSmallType kind h))

says_signal_type : (room count : ℕ) → Says (signal_type room count) IsSmallType
unfolding signal_type
says_signal_type room count =
    says_or (says_scalar word.Bit type.Bit count)
    (says_or (says_vector word.BitVector type.BitVector room count)
    (says_or (says_registered (says_scalar word.RegBit type.RegBit count))
    (says_or (says_registered (says_vector word.RegVector type.RegVector room count))
    (says_registered (says_vector word.RegBitVector type.RegBitVector room count)))))

-- ---- ports

abbrev pub IsPortWord : PortGroup → Type 0
IsPortWord g = Every IsNewWord g.names × IsSmallRange g.kind.range

says_port_behind : (room : ℕ) (n : Names) → AreNewWords n → Says (port_behind room n) IsPortWord
unfolding port_behind
says_port_behind room n h =
    says_behind (λ t. says_behind (λ m. says_then (says_port_type room (length n.1)) (λ kind g. says_behind (λ b.
    says_nothing IsPortWord (record { line = n.0; names = n.1; mode = m.0; mode_line = m.1; kind = kind; bus = b }) (h, g)))))

says_port : (room : ℕ) → Says (port room) IsPortWord
unfolding port
says_port room = says_then (says_names word.Signal) (λ n h. says_port_behind room n h)

says_next_port : (room : ℕ) → Says (next_port room) IsPortWord
unfolding next_port
says_next_port room = says_behind (λ t. says_port room)

says_closed : {A : Type 0} (P : A → Type 0) (x : A) → P x → Says (closed x) P
unfolding closed
says_closed P x h = says_behind (λ t. says_behind (λ u. says_nothing P x h))

says_port_clause : (room : ℕ) → Says (port_clause room) (Every IsPortWord)
unfolding port_clause
says_port_clause room =
    says_behind (λ t. says_behind (λ u. says_then (says_port (room - 1)) (λ first h. says_then (says_list (says_next_port (room - 1))) (λ others hs.
    says_closed (Every IsPortWord) (first ∷ others) (h, hs)))))

-- ---- entities

abbrev pub IsEntityWord : Entity → Type 0
IsEntityWord e = IsShortWord e.name × Every IsPortWord e.ports

says_head : Says entity_head IsShortWord
unfolding entity_head
says_head = says_behind (λ t. says_then says_identifier (λ name h. says_behind (λ w. says_nothing IsShortWord name h)))

says_ending : {A : Type 0} (P : A → Type 0) (name : List ℕ) (x : A) → P x → Says (ending name x) P
unfolding ending
says_ending P name x h = says_behind (λ t. says_or (says_behind (λ u. says_behind (λ w. says_nothing P x h))) (says_behind (λ w. says_nothing P x h)))

pub says_entity : (room : ℕ) → Says (entity room) IsEntityWord
unfolding entity
says_entity room =
    says_then says_head (λ name h. says_behind (λ generics. says_then (says_port_clause room) (λ ports hs.
    says_ending IsEntityWord name (record { name = name; generics = generics; ports = ports }) (h, hs))))

-- ---- declarations

abbrev pub IsSignalWord : SignalGroup → Type 0
IsSignalWord g = Every IsNewWord g.names × IsSmallRange g.kind.range

says_signal : (room : ℕ) → Says (signal room) IsSignalWord
unfolding signal
says_signal room =
    says_then (says_led word.Signal) (λ n h. says_behind (λ t. says_then (says_signal_type room (length n.1)) (λ kind g. says_behind (λ u.
    says_nothing IsSignalWord (record { line = n.0; names = n.1; kind = kind }) (h, g)))))

abbrev pub AreSignalWords : Declarations → Type 0
AreSignalWords d = Every IsSignalWord d.signals

says_declarations : (room : ℕ) → Says (declarations room) AreSignalWords
unfolding declarations
says_declarations room = says_then (says_list (says_signal room)) (λ all h. says_nothing AreSignalWords (record { signals = all }) h)

-- ---- whole texts

abbrev pub IsSourceWord : SourceTree → Type 0
IsSourceWord s = IsEntityWord s.entity × AreSignalWords s.declarations

says_architecture : (room : ℕ) (e : Entity) → IsEntityWord e → Says (architecture room e) IsSourceWord
unfolding architecture
says_architecture room e h =
    says_behind (λ name. says_then (says_declarations room) (λ d g. says_behind (λ all. says_behind (λ u.
    says_nothing IsSourceWord (record { entity = e; declarations = d; statements = all }) (h, g)))))

says_source : (room : ℕ) → Says (source room) IsSourceWord
unfolding source
says_source room = says_then (says_entity room) (λ e h. says_architecture room e h)

-- the names of what is written are words
pub written_words : (bytes : List ℕ) (design : DesignFile) → IsWritten bytes design → IsSourceWord (source_view design)
written_words bytes design w =
    let a = w.source.read.0 in
    (says_source DEPTH).each a.front (source_view design) (words_of a.front w.source.end.rest (subst AreNamed a.parts (named_in bytes))) a.sentence

-- ---- symbols

abbrev pub IsSymbolWord : Symbol → Type 0
IsSymbolWord s = IsShortWord s.text × IsSmallRange s.range

named_words : (r : Role) (range : Option Range) (line : ℕ) (ns : List NewName) → IsSmallRange range → Every IsNewWord ns → Every IsSymbolWord (symbols_named r range line ns)
named_words r range line [] small h = tt
named_words r range line (n ∷ ns) small h = ((h.0, small), named_words r range line ns small h.1)

pub ports_words : (groups : List PortGroup) → Every IsPortWord groups → Every IsSymbolWord (port_symbols groups)
ports_words [] h = tt
ports_words (g ∷ groups) h =
    every_append IsSymbolWord (symbols_named (role_of_mode g.mode) g.kind.range g.line g.names) (port_symbols groups)
    (named_words (role_of_mode g.mode) g.kind.range g.line g.names h.0.1 h.0.0) (ports_words groups h.1)

signals_words : (groups : List SignalGroup) → Every IsSignalWord groups → Every IsSymbolWord (signal_symbols groups)
signals_words [] h = tt
signals_words (g ∷ groups) h =
    every_append IsSymbolWord (symbols_named (role_of_word g.kind.word) g.kind.range g.line g.names) (signal_symbols groups)
    (named_words (role_of_word g.kind.word) g.kind.range g.line g.names h.0.1 h.0.0) (signals_words groups h.1)

pub symbols_words : (design : DesignFile) → IsSourceWord (source_view design) → Every IsSymbolWord (symbols design)
symbols_words design h =
    every_append IsSymbolWord (port_symbols design.entity.ports) (signal_symbols design.declarations.signals)
    (ports_words design.entity.ports h.0.1) (signals_words design.declarations.signals h.1)
