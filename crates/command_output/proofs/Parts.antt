-- Parts that are put after a text one after the other are one text after it.
use Rattle.std.proofs.{Common.{◌≡◌, ◌++◌, ℕ, List, refl}, lemmas.List.append_assoc}

pub four_parts : (text a b c d : List ℕ) → text ++ a ++ b ++ c ++ d ≡ text ++ (a ++ b ++ c ++ d)
four_parts text a b c d = rw (append_assoc text a b, append_assoc text (a ++ b) c, append_assoc text (a ++ b ++ c) d) refl

pub six_parts : (text a b c d e f : List ℕ) → text ++ a ++ b ++ c ++ d ++ e ++ f ≡ text ++ (a ++ b ++ c ++ d ++ e ++ f)
six_parts text a b c d e f = rw (four_parts text a b c d, append_assoc text (a ++ b ++ c ++ d) e, append_assoc text (a ++ b ++ c ++ d ++ e) f) refl

pub seven_parts : (text a b c d e f g : List ℕ) → text ++ a ++ b ++ c ++ d ++ e ++ f ++ g ≡ text ++ (a ++ b ++ c ++ d ++ e ++ f ++ g)
seven_parts text a b c d e f g = rw (six_parts text a b c d e f, append_assoc text (a ++ b ++ c ++ d ++ e ++ f) g) refl
