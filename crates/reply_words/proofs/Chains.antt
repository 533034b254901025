-- Pieces that are appended one after another are one text.
use Rattle.std.proofs.Common.{◌≡◌, ℕ, List, ◌++◌, ap, ◌∙◌, append_assoc}

-- a piece, and all that comes after it
joined : (x a b : List ℕ) {y z : List ℕ} → y ≡ x ++ a → z ≡ y ++ b → z ≡ x ++ (a ++ b)
joined x a b first later = later ∙ ap (λ t. t ++ b) first ∙ append_assoc x a b

pub pieces_2 : (x a b : List ℕ) {y1 y2 : List ℕ}
    → y1 ≡ x ++ a → y2 ≡ y1 ++ b
    → y2 ≡ x ++ (a ++ b)
pieces_2 x a b e1 e2 = joined x a b e1 e2

pub pieces_3 : (x a b c : List ℕ) {y1 y2 y3 : List ℕ}
    → y1 ≡ x ++ a → y2 ≡ y1 ++ b → y3 ≡ y2 ++ c
    → y3 ≡ x ++ (a ++ (b ++ c))
pieces_3 x a b c {y1} e1 e2 e3 =
    joined x a (b ++ c) e1 (pieces_2 y1 b c e2 e3)

pub pieces_4 : (x a b c d : List ℕ) {y1 y2 y3 y4 : List ℕ}
    → y1 ≡ x ++ a → y2 ≡ y1 ++ b → y3 ≡ y2 ++ c
    → y4 ≡ y3 ++ d
    → y4 ≡ x ++ (a ++ (b ++ (c ++ d)))
pieces_4 x a b c d {y1} e1 e2 e3 e4 =
    joined x a (b ++ (c ++ d)) e1 (pieces_3 y1 b c d e2 e3 e4)

pub pieces_5 : (x a b c d e : List ℕ) {y1 y2 y3 y4 y5 : List ℕ}
    → y1 ≡ x ++ a → y2 ≡ y1 ++ b → y3 ≡ y2 ++ c
    → y4 ≡ y3 ++ d → y5 ≡ y4 ++ e
    → y5 ≡ x ++ (a ++ (b ++ (c ++ (d ++ e))))
pieces_5 x a b c d e {y1} e1 e2 e3 e4 e5 =
    joined x a (b ++ (c ++ (d ++ e))) e1 (pieces_4 y1 b c d e e2 e3 e4 e5)

pub pieces_6 : (x a b c d e f : List ℕ) {y1 y2 y3 y4 y5 y6 : List ℕ}
    → y1 ≡ x ++ a → y2 ≡ y1 ++ b → y3 ≡ y2 ++ c
    → y4 ≡ y3 ++ d → y5 ≡ y4 ++ e → y6 ≡ y5 ++ f
    → y6 ≡ x ++ (a ++ (b ++ (c ++ (d ++ (e ++ f)))))
pieces_6 x a b c d e f {y1} e1 e2 e3 e4 e5 e6 =
    joined x a (b ++ (c ++ (d ++ (e ++ f)))) e1 (pieces_5 y1 b c d e f e2 e3 e4 e5 e6)

pub pieces_7 : (x a b c d e f g : List ℕ) {y1 y2 y3 y4 y5 y6 y7 : List ℕ}
    → y1 ≡ x ++ a → y2 ≡ y1 ++ b → y3 ≡ y2 ++ c
    → y4 ≡ y3 ++ d → y5 ≡ y4 ++ e → y6 ≡ y5 ++ f
    → y7 ≡ y6 ++ g
    → y7 ≡ x ++ (a ++ (b ++ (c ++ (d ++ (e ++ (f ++ g))))))
pieces_7 x a b c d e f g {y1} e1 e2 e3 e4 e5 e6 e7 =
    joined x a (b ++ (c ++ (d ++ (e ++ (f ++ g))))) e1 (pieces_6 y1 b c d e f g e2 e3 e4 e5 e6 e7)

pub pieces_8 : (x a b c d e f g h : List ℕ) {y1 y2 y3 y4 y5 y6 y7 y8 : List ℕ}
    → y1 ≡ x ++ a → y2 ≡ y1 ++ b → y3 ≡ y2 ++ c
    → y4 ≡ y3 ++ d → y5 ≡ y4 ++ e → y6 ≡ y5 ++ f
    → y7 ≡ y6 ++ g → y8 ≡ y7 ++ h
    → y8 ≡ x ++ (a ++ (b ++ (c ++ (d ++ (e ++ (f ++ (g ++ h)))))))
pieces_8 x a b c d e f g h {y1} e1 e2 e3 e4 e5 e6 e7 e8 =
    joined x a (b ++ (c ++ (d ++ (e ++ (f ++ (g ++ h)))))) e1 (pieces_7 y1 b c d e f g h e2 e3 e4 e5 e6 e7 e8)

pub pieces_9 : (x a b c d e f g h i : List ℕ) {y1 y2 y3 y4 y5 y6 y7 y8 y9 : List ℕ}
    → y1 ≡ x ++ a → y2 ≡ y1 ++ b → y3 ≡ y2 ++ c
    → y4 ≡ y3 ++ d → y5 ≡ y4 ++ e → y6 ≡ y5 ++ f
    → y7 ≡ y6 ++ g → y8 ≡ y7 ++ h → y9 ≡ y8 ++ i
    → y9 ≡ x ++ (a ++ (b ++ (c ++ (d ++ (e ++ (f ++ (g ++ (h ++ i))))))))
pieces_9 x a b c d e f g h i {y1} e1 e2 e3 e4 e5 e6 e7 e8 e9 =
    joined x a (b ++ (c ++ (d ++ (e ++ (f ++ (g ++ (h ++ i))))))) e1 (pieces_8 y1 b c d e f g h i e2 e3 e4 e5 e6 e7 e8 e9)

pub pieces_10 : (x a b c d e f g h i j : List ℕ) {y1 y2 y3 y4 y5 y6 y7 y8 y9 y10 : List ℕ}
    → y1 ≡ x ++ a → y2 ≡ y1 ++ b → y3 ≡ y2 ++ c
    → y4 ≡ y3 ++ d → y5 ≡ y4 ++ e → y6 ≡ y5 ++ f
    → y7 ≡ y6 ++ g → y8 ≡ y7 ++ h → y9 ≡ y8 ++ i
    → y10 ≡ y9 ++ j
    → y10 ≡ x ++ (a ++ (b ++ (c ++ (d ++ (e ++ (f ++ (g ++ (h ++ (i ++ j)))))))))
pieces_10 x a b c d e f g h i j {y1} e1 e2 e3 e4 e5 e6 e7 e8 e9 e10 =
    joined x a (b ++ (c ++ (d ++ (e ++ (f ++ (g ++ (h ++ (i ++ j)))))))) e1 (pieces_9 y1 b c d e f g h i j e2 e3 e4 e5 e6 e7 e8 e9 e10)

pub pieces_11 : (x a b c d e f g h i j k : List ℕ) {y1 y2 y3 y4 y5 y6 y7 y8 y9 y10 y11 : List ℕ}
    → y1 ≡ x ++ a → y2 ≡ y1 ++ b → y3 ≡ y2 ++ c
    → y4 ≡ y3 ++ d → y5 ≡ y4 ++ e → y6 ≡ y5 ++ f
    → y7 ≡ y6 ++ g → y8 ≡ y7 ++ h → y9 ≡ y8 ++ i
    → y10 ≡ y9 ++ j → y11 ≡ y10 ++ k
    → y11 ≡ x ++ (a ++ (b ++ (c ++ (d ++ (e ++ (f ++ (g ++ (h ++ (i ++ (j ++ k))))))))))
pieces_11 x a b c d e f g h i j k {y1} e1 e2 e3 e4 e5 e6 e7 e8 e9 e10 e11 =
    joined x a (b ++ (c ++ (d ++ (e ++ (f ++ (g ++ (h ++ (i ++ (j ++ k))))))))) e1 (pieces_10 y1 b c d e f g h i j k e2 e3 e4 e5 e6 e7 e8 e9 e10 e11)

pub pieces_12 : (x a b c d e f g h i j k l : List ℕ) {y1 y2 y3 y4 y5 y6 y7 y8 y9 y10 y11 y12 : List ℕ}
    → y1 ≡ x ++ a → y2 ≡ y1 ++ b → y3 ≡ y2 ++ c
    → y4 ≡ y3 ++ d → y5 ≡ y4 ++ e → y6 ≡ y5 ++ f
    → y7 ≡ y6 ++ g → y8 ≡ y7 ++ h → y9 ≡ y8 ++ i
    → y10 ≡ y9 ++ j → y11 ≡ y10 ++ k → y12 ≡ y11 ++ l
    → y12 ≡ x ++ (a ++ (b ++ (c ++ (d ++ (e ++ (f ++ (g ++ (h ++ (i ++ (j ++ (k ++ l)))))))))))
pieces_12 x a b c d e f g h i j k l {y1} e1 e2 e3 e4 e5 e6 e7 e8 e9 e10 e11 e12 =
    joined x a (b ++ (c ++ (d ++ (e ++ (f ++ (g ++ (h ++ (i ++ (j ++ (k ++ l)))))))))) e1 (pieces_11 y1 b c d e f g h i j k l e2 e3 e4 e5 e6 e7 e8 e9 e10 e11 e12)

pub pieces_13 : (x a b c d e f g h i j k l m : List ℕ) {y1 y2 y3 y4 y5 y6 y7 y8 y9 y10 y11 y12 y13 : List ℕ}
    → y1 ≡ x ++ a → y2 ≡ y1 ++ b → y3 ≡ y2 ++ c
    → y4 ≡ y3 ++ d → y5 ≡ y4 ++ e → y6 ≡ y5 ++ f
    → y7 ≡ y6 ++ g → y8 ≡ y7 ++ h → y9 ≡ y8 ++ i
    → y10 ≡ y9 ++ j → y11 ≡ y10 ++ k → y12 ≡ y11 ++ l
    → y13 ≡ y12 ++ m
    → y13 ≡ x ++ (a ++ (b ++ (c ++ (d ++ (e ++ (f ++ (g ++ (h ++ (i ++ (j ++ (k ++ (l ++ m))))))))))))
pieces_13 x a b c d e f g h i j k l m {y1} e1 e2 e3 e4 e5 e6 e7 e8 e9 e10 e11 e12 e13 =
    joined x a (b ++ (c ++ (d ++ (e ++ (f ++ (g ++ (h ++ (i ++ (j ++ (k ++ (l ++ m))))))))))) e1 (pieces_12 y1 b c d e f g h i j k l m e2 e3 e4 e5 e6 e7 e8 e9 e10 e11 e12 e13)
