-- Pieces one behind another.
use Rattle.std.proofs.Common.{◌≡◌, List, ℕ, [], ◌++◌, append_assoc, refl}

pub eight_pieces : (p q r s u v w z t0 t1 t2 t3 t4 t5 t6 t7 t8 : List ℕ) → t0 ≡ [] → t1 ≡ t0 ++ p
    → t2 ≡ t1 ++ q → t3 ≡ t2 ++ r → t4 ≡ t3 ++ s → t5 ≡ t4 ++ u → t6 ≡ t5 ++ v → t7 ≡ t6 ++ w
    → t8 ≡ t7 ++ z → t8 ≡ p ++ (q ++ (r ++ (s ++ (u ++ (v ++ (w ++ z))))))
eight_pieces p q r s u v w z t0 t1 t2 t3 t4 t5 t6 t7 t8 e0 e1 e2 e3 e4 e5 e6 e7 e8 =
    rw e8 (rw e7 (rw e6 (rw e5 (rw e4 (rw e3 (rw e2 (rw e1 (rw e0 (simp append_assoc refl)))))))))
