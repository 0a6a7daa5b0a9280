-- Laws of chains.
use Rattle.std.proofs.Common.{List, sym}
use Rattle.block_geom.specs.Figure.{Shape, In}
use Rattle.block_geom.specs.Joined.{Linked, touching, one_line, one_name, Joined, same, link}
use Rattle.block_geom.proofs.Rects.{Meet_sym}

pub Linked_sym : (a b : Shape) → Linked a b → Linked b a
Linked_sym a b (touching m h) = touching (sym m) (Meet_sym a.rect b.rect h)
Linked_sym a b (one_line o l) = one_line (sym o) (sym l)
Linked_sym a b (one_name o n p q) = one_name (sym o) n q p

pub Joined_trans : {xs : List Shape} (a b c : Shape) → Joined xs a b → Joined xs b c → Joined xs a c
Joined_trans a b c same k = k
Joined_trans a b c (link {b = d} i l j) k = link i l (Joined_trans d b c j k)

pub Joined_link : {xs : List Shape} (a b c : Shape) → Joined xs a b → In c xs → Linked b c → Joined xs a c
Joined_link a b c j i l = Joined_trans a b c j (link i l same)

pub Joined_sym : {xs : List Shape} (a b : Shape) → In a xs → Joined xs a b → Joined xs b a
Joined_sym a b i same = same
Joined_sym a b i (link {b = d} k l j) = Joined_link b d a (Joined_sym d b k j) i (Linked_sym a d l)

-- what every link keeps, a chain keeps
pub Joined_keeps : {xs : List Shape} (P : Shape → Type 0) → ((a b : Shape) → In a xs → In b xs → Linked a b → P a → P b) → (a b : Shape) → In a xs → Joined xs a b → P a → P b
Joined_keeps P keep a b i same p = p
Joined_keeps P keep a b i (link {b = d} k l j) p = Joined_keeps P keep d b k j (keep a d i k l p)
