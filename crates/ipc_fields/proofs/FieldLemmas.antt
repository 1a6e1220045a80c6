-- What each kind of field reads was spelled so, and what it spells is read again.
use Rattle.std.proofs.Common.{◌≡◌, ℕ, zero, suc, ◌+◌, ◌^◌, ◌<◌, ◌≤◌, Bool, true, false, cond, eqb, ltb, List, [], ◌∷◌, ◌++◌, length, get_or, take, drop, Option, Some, None, Result, Ok, Err, refl, sym, ap, subst, ◌∙◌, append_assoc, arith, inl, inr}
use Rattle.std.specs.Int.{Width, w16, w32, w64, byte_len, from_be_bytes, to_be_bytes}
use Rattle.std.proofs.lemmas.Bool.{cases_lt, ltb-false, ltb-true, le-ltb, lt-ltb, and_parts, and_from, eqb-true}
use Rattle.std.proofs.lemmas.List.{take_at, drop_at, take-append-drop, append-nil, length-append, length-take, get_or-drop, get_or-take, get_or_past}
use Rattle.std.proofs.lemmas.Nat.{be_bytes_2, be_bytes_4, be_bytes_8, from_be_bytes-to_be_bytes_2, from_be_bytes-to_be_bytes_4, from_be_bytes-to_be_bytes_8}
use Rattle.ipc_fields.specs.declared.fault.WireFault.{WireFault}
use Rattle.ipc_fields.specs.declared.fault.WireFault.TheVariants.{BadField}
use Rattle.ipc_fields.specs.Field.{◌>>=◌, ◌⊕◌, Field, Body, split, number, u16, u32, u64, text, byte, decoded, coded, seen, bool_code, bool_of, boolean, optional, ◌⊗◌, all_spelled, all_plain, so_many, counted, ended, alone, nothing, only, then_rest}

abbrev pub IsBytes : List ℕ → Type 0
IsBytes w = (i : ℕ) → get_or w i 0 < 256

pub IsBytes-drop : (n : ℕ) (w : List ℕ) → IsBytes w → IsBytes (drop n w)
IsBytes-drop n w h i = rw get_or-drop (h (n + i))

pub IsBytes-take : (n : ℕ) (w : List ℕ) → IsBytes w → IsBytes (take n w)
IsBytes-take n w h i =
    elim (cases_lt i n) [
      | inl lt ↦ rw (get_or-take n w i 0 lt) (h i)
      | inr le ↦ rw (get_or_past (take n w) i 0 (omega (arith, length-take n w))) (omega arith)
    ]

pub IsBytes-rest : (b : ℕ) (w : List ℕ) → IsBytes (b ∷ w) → IsBytes w
IsBytes-rest b w h i = h (suc i)

-- the value of a step that did not fail
pub bind_ok : {A B : Type 0} (r : Result A WireFault) (f : A → Result B WireFault) (y : B) → (r >>= f) ≡ Ok y → (x : A) × (r ≡ Ok x) × (f x ≡ Ok y)
bind_ok (Ok x) f y e = (x, refl, e)
bind_ok (Err d) f y e = absurd cc

abbrev done : {A : Type 0} → A → Result A WireFault
done x = Ok x

pub ok_is : {A : Type 0} (x y : A) → done x ≡ done y → x ≡ y
ok_is x y e = cc

abbrev there : {A : Type 0} → A → Option A
there x = Some x

pub some_is : {A : Type 0} (x y : A) → there x ≡ there y → x ≡ y
some_is x y e = cc

pub some_not_none : {A : Type 0} {P : Type 0} (x : A) → None ≡ there x → P
some_not_none x e = absurd cc

-- both texts of a text of two
pub join_some : (a b : Option (List ℕ)) (s : List ℕ) → (a ⊕ b) ≡ Some s → (x : List ℕ) × (y : List ℕ) × (a ≡ Some x) × (b ≡ Some y) × (s ≡ x ++ y)
join_some None b s e = absurd cc
join_some (Some x) None s e = absurd cc
join_some (Some x) (Some y) s e = (x, y, refl, refl, sym (some_is (x ++ y) s e))

both_spelled : (a b : Option (List ℕ)) (s t : List ℕ) → a ≡ Some s → b ≡ Some t → (a ⊕ b) ≡ Some (s ++ t)
both_spelled a b s t d e = rw (d, e) refl

-- two texts, and what follows both
two_texts : (u v w x r : List ℕ) → w ≡ u ++ x → x ≡ v ++ r → w ≡ (u ++ v) ++ r
two_texts u v w x r d e = d ∙ ap (λ (z : List ℕ). u ++ z) e ∙ sym (append_assoc u v r)

-- where the first is known by another name
headed_text : (h u v w x r : List ℕ) → h ≡ u → w ≡ u ++ x → x ≡ v ++ r → w ≡ (h ++ v) ++ r
headed_text h u v w x r is d e = two_texts h v w x r (d ∙ ap (λ (z : List ℕ). z ++ x) (sym is)) e

-- what a reader took from the front
pub record Takes {A : Type 0} (f : Field A) (w : List ℕ) (x : A) (r : List ℕ) : Type 0 where
  pub text : List ℕ
  pub spelled : f.spell x ≡ Some text
  pub parts : w ≡ text ++ r
  pub plain : f.is_plain x ≡ true
  pub rest_fits : IsBytes r

pub record IsExact {A : Type 0} (f : Field A) : Type 0 where
  pub takes : (w : List ℕ) (x : A) (r : List ℕ) → IsBytes w → f.read w ≡ Ok (x, r) → Takes f w x r
  pub again : (x : A) (s r : List ℕ) → f.is_plain x ≡ true → f.spell x ≡ Some s → f.read (s ++ r) ≡ Ok (x, r)

pub record IsExactBody {A : Type 0} (b : Body A) : Type 0 where
  pub takes : (w : List ℕ) (x : A) → IsBytes w → b.read w ≡ Ok x → (b.spell x ≡ Some w) × (b.is_plain x ≡ true)
  pub again : (x : A) (w : List ℕ) → b.is_plain x ≡ true → b.spell x ≡ Some w → b.read w ≡ Ok x

-- ---- the first bytes

guard_ok : {A : Type 0} (b : Bool) (d : WireFault) (x y : A) → cond b (Err d) (Ok x) ≡ Ok y → (b ≡ false) × (x ≡ y)
guard_ok true d x y e = absurd cc
guard_ok false d x y e = (refl, cc)

pub record IsSplit (n : ℕ) (w x r : List ℕ) : Type 0 where
  pub parts : w ≡ x ++ r
  pub len : length x ≡ n
  pub text_fits : IsBytes x
  pub rest_fits : IsBytes r

split_takes : (n : ℕ) (w x r : List ℕ) → IsBytes w → split n w ≡ Ok (x, r) → IsSplit n w x r
split_takes n w x r fits e =
    let g = guard_ok (ltb (length w) n) BadField (take n w, drop n w) (x, r) e in
    let long : n ≤ length w = ltb-false _ _ g.0 in
    subst (λ (p : List ℕ × List ℕ). IsSplit n w p.0 p.1) g.1 (record {
      parts = sym (take-append-drop n w);
      len = omega (arith, length-take n w);
      text_fits = IsBytes-take n w fits;
      rest_fits = IsBytes-drop n w fits;
    })

split_again : (n : ℕ) (x r : List ℕ) → length x ≡ n → split n (x ++ r) ≡ Ok (x, r)
split_again n x r len =
    let long : ltb (length (x ++ r)) n ≡ false = le-ltb _ _ (omega (arith, length-append x r)) in
    rw (long, take_at x r n len, drop_at x r n len) refl

-- ---- numbers

pub record IsWide (w : Width) (limit : ℕ) : Type 0 where
  pub len : (n : ℕ) → length (to_be_bytes w n) ≡ byte_len w
  pub back : (bytes : List ℕ) → length bytes ≡ byte_len w → IsBytes bytes → to_be_bytes w (from_be_bytes w bytes) ≡ bytes
  pub again : (n : ℕ) → n < limit → from_be_bytes w (to_be_bytes w n) ≡ n
  pub below : (bytes : List ℕ) → IsBytes bytes → from_be_bytes w bytes < limit

wide16 : IsWide w16 (2 ^ 16)
wide16 = record {
  len = λ n. refl;
  back = λ bytes len fits. be_bytes_2 bytes _ len fits refl;
  again = λ n lt. from_be_bytes-to_be_bytes_2 n lt;
  below = λ bytes fits. omega (arith, fits 0, fits 1);
}

pub wide32 : IsWide w32 (2 ^ 32)
wide32 = record {
  len = λ n. refl;
  back = λ bytes len fits. be_bytes_4 bytes _ len fits refl;
  again = λ n lt. from_be_bytes-to_be_bytes_4 n lt;
  below = λ bytes fits. omega (arith, fits 0, fits 1, fits 2, fits 3);
}

wide64 : IsWide w64 (2 ^ 64)
wide64 = record {
  len = λ n. refl;
  back = λ bytes len fits. be_bytes_8 bytes _ len fits refl;
  again = λ n lt. from_be_bytes-to_be_bytes_8 n lt;
  below = λ bytes fits. omega (arith, fits 0, fits 1, fits 2, fits 3, fits 4, fits 5, fits 6, fits 7);
}

number_takes : (width : Width) (limit : ℕ) → IsWide width limit → (w : List ℕ) (n : ℕ) (r : List ℕ) → IsBytes w → (number width limit).read w ≡ Ok (n, r) → Takes (number width limit) w n r
number_takes width limit wide w n r fits e =
    let b = bind_ok (split (byte_len width) w) (λ x. Ok (from_be_bytes width x.0, x.1)) (n, r) e in
    let s = split_takes (byte_len width) w b.0.0 b.0.1 fits b.1 in
    subst (λ (p : ℕ × List ℕ). Takes (number width limit) w p.0 p.1) (ok_is (from_be_bytes width b.0.0, b.0.1) (n, r) b.2) (record {
      text = b.0.0;
      spelled = ap Some (wide.back b.0.0 s.len s.text_fits);
      parts = s.parts;
      plain = lt-ltb _ _ (wide.below b.0.0 s.text_fits);
      rest_fits = s.rest_fits;
    })

number_again : (width : Width) (limit : ℕ) → IsWide width limit → (n : ℕ) (s r : List ℕ) → ltb n limit ≡ true → there (to_be_bytes width n) ≡ Some s → (number width limit).read (s ++ r) ≡ Ok (n, r)
number_again width limit wide n s r lt e =
    let text : to_be_bytes width n ≡ s = some_is _ _ e in
    rw (← text, split_again (byte_len width) (to_be_bytes width n) r (wide.len n), wide.again n (ltb-true _ _ lt)) refl

number_exact : (width : Width) (limit : ℕ) → IsWide width limit → IsExact (number width limit)
number_exact width limit wide = record { takes = number_takes width limit wide; again = number_again width limit wide }

pub u16_exact : IsExact u16
u16_exact = number_exact w16 (2 ^ 16) wide16

pub u32_exact : IsExact u32
u32_exact = number_exact w32 (2 ^ 32) wide32

pub u64_exact : IsExact u64
u64_exact = number_exact w64 (2 ^ 64) wide64

-- ---- texts

text_takes : (w t r : List ℕ) → IsBytes w → text.read w ≡ Ok (t, r) → Takes text w t r
unfolding text
text_takes w t r fits e =
    let b = bind_ok (u16.read w) (λ n. split n.0 n.1) (t, r) e in
    let n = u16_exact.takes w b.0.0 b.0.1 fits b.1 in
    let s = split_takes b.0.0 b.0.1 t r n.rest_fits b.2 in
    let small : ltb (length t) (2 ^ 16) ≡ true = rw s.len n.plain in
    let header : to_be_bytes w16 (length t) ≡ n.text = ap (to_be_bytes w16) s.len ∙ some_is _ _ n.spelled in
    record {
      text = to_be_bytes w16 (length t) ++ t;
      spelled = rw small refl;
      parts = headed_text (to_be_bytes w16 (length t)) n.text t w b.0.1 r header n.parts s.parts;
      plain = refl;
      rest_fits = s.rest_fits;
    }

guard_some : {A : Type 0} (b : Bool) (x y : A) → cond b (Some x) None ≡ Some y → (b ≡ true) × (x ≡ y)
guard_some true x y e = (refl, cc)
guard_some false x y e = absurd cc

text_again : (t s r : List ℕ) → text.is_plain t ≡ true → text.spell t ≡ Some s → text.read (s ++ r) ≡ Ok (t, r)
unfolding text
text_again t s r plain e =
    let g = guard_some (ltb (length t) (2 ^ 16)) (to_be_bytes w16 (length t) ++ t) s e in
    let regrouped : s ++ r ≡ to_be_bytes w16 (length t) ++ (t ++ r) = ap (λ (x : List ℕ). x ++ r) (sym g.1) ∙ append_assoc (to_be_bytes w16 (length t)) t r in
    ap text.read regrouped ∙ rw (u16_exact.again (length t) (to_be_bytes w16 (length t)) (t ++ r) g.0 refl, split_again (length t) t r refl) refl

pub text_exact : IsExact text
text_exact = record { takes = text_takes; again = text_again }

-- ---- one byte

byte_takes : (w : List ℕ) (b : ℕ) (r : List ℕ) → IsBytes w → byte.read w ≡ Ok (b, r) → Takes byte w b r
byte_takes [] b r fits e = absurd cc
byte_takes (x ∷ w) b r fits e =
    subst (λ (p : ℕ × List ℕ). Takes byte (x ∷ w) p.0 p.1) (ok_is (x, w) (b, r) e) (record { text = x ∷ []; spelled = refl; parts = refl; plain = lt-ltb _ _ (fits 0); rest_fits = IsBytes-rest x w fits })

byte_again : (b : ℕ) (s r : List ℕ) → byte.is_plain b ≡ true → byte.spell b ≡ Some s → byte.read (s ++ r) ≡ Ok (b, r)
byte_again b s r plain e =
    let text : b ∷ [] ≡ s = some_is _ _ e in
    rw (← text) refl

pub byte_exact : IsExact byte
byte_exact = record { takes = byte_takes; again = byte_again }

-- ---- a value that another stands for

pub record IsCode {A B : Type 0} (code : B → A) (is_plain : B → Bool) (value : A → Option B) (f : Field A) : Type 0 where
  pub back : (x : A) (y : B) → f.is_plain x ≡ true → value x ≡ Some y → (code y ≡ x) × (is_plain y ≡ true)
  pub again : (y : B) → is_plain y ≡ true → (value (code y) ≡ Some y) × (f.is_plain (code y) ≡ true)

decoded_ok : {A : Type 0} (o : Option A) (w : List ℕ) (x : A) (r : List ℕ) → decoded o w ≡ Ok (x, r) → (o ≡ Some x) × (w ≡ r)
decoded_ok None w x r e = absurd cc
decoded_ok {A} (Some y) w x r e =
    let same : ◌≡◌ {A = A × List ℕ} (y, w) (x, r) = ok_is _ _ e in
    (ap (λ (p : A × List ℕ). Some p.0) same, ap (λ (p : A × List ℕ). p.1) same)

coded_takes : {A B : Type 0} (code : B → A) (is_plain : B → Bool) (value : A → Option B) (f : Field A) → IsCode code is_plain value f → IsExact f → (w : List ℕ) (y : B) (r : List ℕ) → IsBytes w → (coded code is_plain value f).read w ≡ Ok (y, r) → Takes (coded code is_plain value f) w y r
coded_takes {A} {B} code is_plain value f is exact w y r fits e =
    let b = bind_ok (f.read w) (λ x. decoded (value x.0) x.1) (y, r) e in
    let s = exact.takes w b.0.0 b.0.1 fits b.1 in
    let d = decoded_ok (value b.0.0) b.0.1 y r b.2 in
    let c = is.back b.0.0 y s.plain d.0 in
    record {
      text = s.text;
      spelled = ap f.spell c.0 ∙ s.spelled;
      parts = s.parts ∙ ap (λ (z : List ℕ). s.text ++ z) d.1;
      plain = c.1;
      rest_fits = subst IsBytes d.1 s.rest_fits;
    }

coded_again : {A B : Type 0} (code : B → A) (is_plain : B → Bool) (value : A → Option B) (f : Field A) → IsCode code is_plain value f → IsExact f → (y : B) (s r : List ℕ) → is_plain y ≡ true → f.spell (code y) ≡ Some s → (coded code is_plain value f).read (s ++ r) ≡ Ok (y, r)
coded_again code is_plain value f is exact y s r plain e =
    let i = is.again y plain in
    rw (exact.again (code y) s r i.1 e, i.0) refl

pub coded_exact : {A B : Type 0} (code : B → A) (is_plain : B → Bool) (value : A → Option B) (f : Field A) → IsCode code is_plain value f → IsExact f → IsExact (coded code is_plain value f)
coded_exact code is_plain value f is exact = record { takes = coded_takes code is_plain value f is exact; again = coded_again code is_plain value f is exact }

pub seen_exact : {A B : Type 0} (to : A → B) (from : B → A) (f : Field A) → ((x : A) → from (to x) ≡ x) → ((y : B) → to (from y) ≡ y) → IsExact f → IsExact (seen to from f)
seen_exact {A} {B} to from f back forth exact =
    coded_exact from (λ y. f.is_plain (from y)) (λ x. Some (to x)) f (record {
      back = λ x y plain e. (let same : from y ≡ x = ap from (sym (some_is (to x) y e)) ∙ back x in (same, ap f.is_plain same ∙ plain));
      again = λ y plain. (ap (λ (z : B). Some z) (forth y), plain);
    }) exact

-- one test of a chain
pub chosen : {A : Type 0} (n b : ℕ) (y x : A) (others : Option A) (P : Type 0) → cond (eqb b n) (Some y) others ≡ Some x → ((b ≡ n) → (y ≡ x) → P) → (others ≡ Some x → P) → P
chosen n b y x others P e here there = decided (eqb b n) refl e
  where
    decided : (t : Bool) → eqb b n ≡ t → cond t (Some y) others ≡ Some x → P
    decided true is e = here (eqb-true b n is) (some_is y x e)
    decided false is e = there e

bool_back : (n : ℕ) (b : Bool) → ltb n 256 ≡ true → bool_of n ≡ Some b → (bool_code b ≡ n) × (true ≡ true)
bool_back n b lt e =
    let Goal : Type 0 = (bool_code b ≡ n) × (true ≡ true) in
    chosen 0 n false b _ Goal e (λ is y. (ap bool_code (sym y) ∙ sym is, refl)) (λ f.
    chosen 1 n true b None Goal f (λ is y. (ap bool_code (sym y) ∙ sym is, refl)) (λ g. absurd cc))

bool_again : (b : Bool) → true ≡ true → (bool_of (bool_code b) ≡ Some b) × (ltb (bool_code b) 256 ≡ true)
bool_again true p = (refl, refl)
bool_again false p = (refl, refl)

pub boolean_exact : IsExact boolean
unfolding boolean
boolean_exact = coded_exact bool_code (λ b. true) bool_of byte (record { back = bool_back; again = bool_again }) byte_exact

-- ---- one field and then another

pair_takes : {A B : Type 0} (f : Field A) (g : Field B) → IsExact f → IsExact g → (w : List ℕ) (x : A × B) (r : List ℕ) → IsBytes w → (f ⊗ g).read w ≡ Ok (x, r) → Takes (f ⊗ g) w x r
pair_takes {A} {B} f g f_exact g_exact w x r fits e =
    let a = bind_ok (f.read w) (λ a. g.read a.1 >>= λ b. Ok ((a.0, b.0), b.1)) (x, r) e in
    let b = bind_ok (g.read a.0.1) (λ b. Ok ((a.0.0, b.0), b.1)) (x, r) a.2 in
    let s = f_exact.takes w a.0.0 a.0.1 fits a.1 in
    let t = g_exact.takes a.0.1 b.0.0 b.0.1 s.rest_fits b.1 in
    let made : (A × B) × List ℕ = ((a.0.0, b.0.0), b.0.1) in
    subst (λ (p : (A × B) × List ℕ). Takes (f ⊗ g) w p.0 p.1) (ok_is made (x, r) b.2) (record {
      text = s.text ++ t.text;
      spelled = both_spelled (f.spell a.0.0) (g.spell b.0.0) s.text t.text s.spelled t.spelled;
      parts = two_texts s.text t.text w a.0.1 b.0.1 s.parts t.parts;
      plain = and_from _ _ s.plain t.plain;
      rest_fits = t.rest_fits;
    })

pair_again : {A B : Type 0} (f : Field A) (g : Field B) → IsExact f → IsExact g → (x : A × B) (s r : List ℕ) → (f ⊗ g).is_plain x ≡ true → (f ⊗ g).spell x ≡ Some s → (f ⊗ g).read (s ++ r) ≡ Ok (x, r)
pair_again f g f_exact g_exact x s r plain e =
    let p = and_parts (f.is_plain x.0) (g.is_plain x.1) plain in
    let j = join_some (f.spell x.0) (g.spell x.1) s e in
    let regrouped : s ++ r ≡ j.0 ++ (j.1 ++ r) = ap (λ (z : List ℕ). z ++ r) j.4 ∙ append_assoc j.0 j.1 r in
    ap (f ⊗ g).read regrouped ∙ rw (f_exact.again x.0 j.0 (j.1 ++ r) p.0 j.2, g_exact.again x.1 j.1 r p.1 j.3) refl

pub pair_exact : {A B : Type 0} (f : Field A) (g : Field B) → IsExact f → IsExact g → IsExact (f ⊗ g)
pair_exact f g f_exact g_exact = record { takes = pair_takes f g f_exact g_exact; again = pair_again f g f_exact g_exact }

-- ---- a value that may be left out

optional_takes : {A : Type 0} (f : Field A) → IsExact f → (w : List ℕ) (o : Option A) (r : List ℕ) → IsBytes w → (optional f).read w ≡ Ok (o, r) → Takes (optional f) w o r
optional_takes f exact [] o r fits e = absurd cc
optional_takes {A} f exact (zero ∷ w) o r fits e =
    let made : Option A × List ℕ = (None, w) in
    subst (λ (p : Option A × List ℕ). Takes (optional f) (0 ∷ w) p.0 p.1) (ok_is made (o, r) e) (record { text = 0 ∷ []; spelled = refl; parts = refl; plain = refl; rest_fits = IsBytes-rest 0 w fits })
optional_takes {A} f exact (suc zero ∷ w) o r fits e =
    let b = bind_ok (f.read w) (λ x. Ok (Some x.0, x.1)) (o, r) e in
    let s = exact.takes w b.0.0 b.0.1 (IsBytes-rest 1 w fits) b.1 in
    let made : Option A × List ℕ = (Some b.0.0, b.0.1) in
    subst (λ (p : Option A × List ℕ). Takes (optional f) (1 ∷ w) p.0 p.1) (ok_is made (o, r) b.2) (record { text = 1 ∷ s.text; spelled = rw s.spelled refl; parts = ap (λ (z : List ℕ). 1 ∷ z) s.parts; plain = s.plain; rest_fits = s.rest_fits })
optional_takes f exact (suc (suc b) ∷ w) o r fits e = absurd cc

optional_again : {A : Type 0} (f : Field A) → IsExact f → (o : Option A) (s r : List ℕ) → (optional f).is_plain o ≡ true → (optional f).spell o ≡ Some s → (optional f).read (s ++ r) ≡ Ok (o, r)
optional_again f exact None s r plain e =
    let text : 0 ∷ [] ≡ s = some_is _ _ e in
    rw (← text) refl
optional_again f exact (Some x) s r plain e =
    let j = join_some (Some (1 ∷ [])) (f.spell x) s e in
    let one : 1 ∷ [] ≡ j.0 = some_is _ _ j.2 in
    let whole : s ++ r ≡ 1 ∷ (j.1 ++ r) = ap (λ (z : List ℕ). z ++ r) (j.4 ∙ ap (λ (z : List ℕ). z ++ j.1) (sym one)) in
    ap (optional f).read whole ∙ rw (exact.again x j.1 r plain j.3) refl

pub optional_exact : {A : Type 0} (f : Field A) → IsExact f → IsExact (optional f)
optional_exact f exact = record { takes = optional_takes f exact; again = optional_again f exact }

-- ---- so many values

pub record TakesMany {A : Type 0} (f : Field A) (n : ℕ) (w : List ℕ) (xs : List A) (r : List ℕ) : Type 0 where
  pub text : List ℕ
  pub spelled : all_spelled f xs ≡ Some text
  pub parts : w ≡ text ++ r
  pub plain : all_plain f xs ≡ true
  pub rest_fits : IsBytes r
  pub len : length xs ≡ n

many_take : {A : Type 0} (f : Field A) → IsExact f → (n : ℕ) (w : List ℕ) (xs : List A) (r : List ℕ) → IsBytes w → so_many f n w ≡ Ok (xs, r) → TakesMany f n w xs r
unfolding so_many
many_take {A} f exact zero w xs r fits e =
    let made : List A × List ℕ = ([], w) in
    subst (λ (p : List A × List ℕ). TakesMany f 0 w p.0 p.1) (ok_is made (xs, r) e) (record { text = []; spelled = refl; parts = refl; plain = refl; rest_fits = fits; len = refl })
many_take {A} f exact (suc n) w xs r fits e =
    let a = bind_ok (f.read w) (λ x. so_many f n x.1 >>= λ ys. Ok (x.0 ∷ ys.0, ys.1)) (xs, r) e in
    let b = bind_ok (so_many f n a.0.1) (λ ys. Ok (a.0.0 ∷ ys.0, ys.1)) (xs, r) a.2 in
    let s = exact.takes w a.0.0 a.0.1 fits a.1 in
    let t = many_take f exact n a.0.1 b.0.0 b.0.1 s.rest_fits b.1 in
    let made : List A × List ℕ = (a.0.0 ∷ b.0.0, b.0.1) in
    subst (λ (p : List A × List ℕ). TakesMany f (suc n) w p.0 p.1) (ok_is made (xs, r) b.2) (record {
      text = s.text ++ t.text;
      spelled = both_spelled (f.spell a.0.0) (all_spelled f b.0.0) s.text t.text s.spelled t.spelled;
      parts = two_texts s.text t.text w a.0.1 b.0.1 s.parts t.parts;
      plain = and_from _ _ s.plain t.plain;
      rest_fits = t.rest_fits;
      len = ap suc t.len;
    })

many_again : {A : Type 0} (f : Field A) → IsExact f → (xs : List A) (s r : List ℕ) → all_plain f xs ≡ true → all_spelled f xs ≡ Some s → so_many f (length xs) (s ++ r) ≡ Ok (xs, r)
unfolding so_many
many_again f exact [] s r plain e =
    let nil : [] ≡ s = some_is _ _ e in
    rw (← nil) refl
many_again f exact (x ∷ xs) s r plain e =
    let p = and_parts (f.is_plain x) (all_plain f xs) plain in
    let j = join_some (f.spell x) (all_spelled f xs) s e in
    let regrouped : s ++ r ≡ j.0 ++ (j.1 ++ r) = ap (λ (z : List ℕ). z ++ r) j.4 ∙ append_assoc j.0 j.1 r in
    ap (so_many f (suc (length xs))) regrouped ∙ rw (exact.again x j.0 (j.1 ++ r) p.0 j.2, many_again f exact xs j.1 r p.1 j.3) refl

counted_takes : {A : Type 0} (f : Field A) → IsExact f → (w : List ℕ) (xs : List A) (r : List ℕ) → IsBytes w → (counted f).read w ≡ Ok (xs, r) → Takes (counted f) w xs r
unfolding counted
counted_takes f exact w xs r fits e =
    let b = bind_ok (u16.read w) (λ n. so_many f n.0 n.1) (xs, r) e in
    let n = u16_exact.takes w b.0.0 b.0.1 fits b.1 in
    let t = many_take f exact b.0.0 b.0.1 xs r n.rest_fits b.2 in
    let small : ltb (length xs) (2 ^ 16) ≡ true = rw t.len n.plain in
    let header : to_be_bytes w16 (length xs) ≡ n.text = ap (to_be_bytes w16) t.len ∙ some_is _ _ n.spelled in
    record {
      text = to_be_bytes w16 (length xs) ++ t.text;
      spelled = rw (small, t.spelled) refl;
      parts = headed_text (to_be_bytes w16 (length xs)) n.text t.text w b.0.1 r header n.parts t.parts;
      plain = t.plain;
      rest_fits = t.rest_fits;
    }

guard_there : (b : Bool) (o : Option (List ℕ)) (y : List ℕ) → cond b o None ≡ Some y → (b ≡ true) × (o ≡ Some y)
guard_there true o y e = (refl, e)
guard_there false o y e = absurd cc

counted_again : {A : Type 0} (f : Field A) → IsExact f → (xs : List A) (s r : List ℕ) → (counted f).is_plain xs ≡ true → (counted f).spell xs ≡ Some s → (counted f).read (s ++ r) ≡ Ok (xs, r)
unfolding counted
counted_again f exact xs s r plain e =
    let head : List ℕ = to_be_bytes w16 (length xs) in
    let g = guard_there (ltb (length xs) (2 ^ 16)) (Some head ⊕ all_spelled f xs) s e in
    let j = join_some (Some head) (all_spelled f xs) s g.1 in
    let front : head ≡ j.0 = some_is _ _ j.2 in
    let regrouped : s ++ r ≡ head ++ (j.1 ++ r) = ap (λ (z : List ℕ). z ++ r) (j.4 ∙ ap (λ (z : List ℕ). z ++ j.1) (sym front)) ∙ append_assoc head j.1 r in
    ap (counted f).read regrouped ∙ ap (λ (x : Result (ℕ × List ℕ) WireFault). x >>= λ n. so_many f n.0 n.1) (u16_exact.again (length xs) head (j.1 ++ r) g.0 refl) ∙ many_again f exact xs j.1 r plain j.3

pub counted_exact : {A : Type 0} (f : Field A) → IsExact f → IsExact (counted f)
counted_exact f exact = record { takes = counted_takes f exact; again = counted_again f exact }

-- ---- bodies

ended_ok : (w : List ℕ) (u : Unit {0}) → ended w ≡ Ok u → w ≡ []
ended_ok [] u e = refl
ended_ok (b ∷ w) u e = absurd cc

only_takes : {A : Type 0} (f : Field A) → IsExact f → (w : List ℕ) (x : A) → IsBytes w → (only f).read w ≡ Ok x → (f.spell x ≡ Some w) × (f.is_plain x ≡ true)
only_takes {A} f exact w x fits e =
    let a = bind_ok (f.read w) (λ y. ended y.1 >>= λ u. Ok y.0) x e in
    let b = bind_ok (ended a.0.1) (λ u. Ok a.0.0) x a.2 in
    let s = exact.takes w a.0.0 a.0.1 fits a.1 in
    let nil = ended_ok a.0.1 b.0 b.1 in
    let whole : s.text ≡ w = sym (append-nil s.text) ∙ ap (λ (z : List ℕ). s.text ++ z) (sym nil) ∙ sym s.parts in
    subst (λ (y : A). (f.spell y ≡ Some w) × (f.is_plain y ≡ true)) (ok_is a.0.0 x b.2) (s.spelled ∙ ap Some whole, s.plain)

only_again : {A : Type 0} (f : Field A) → IsExact f → (x : A) (w : List ℕ) → f.is_plain x ≡ true → f.spell x ≡ Some w → (only f).read w ≡ Ok x
only_again f exact x w plain e = ap (only f).read (sym (append-nil w)) ∙ rw (exact.again x w [] plain e) refl

pub only_exact : {A : Type 0} (f : Field A) → IsExact f → IsExactBody (only f)
only_exact f exact = record { takes = only_takes f exact; again = only_again f exact }

rest_takes : {A : Type 0} (f : Field A) → IsExact f → (w : List ℕ) (x : A × List ℕ) → IsBytes w → f.read w ≡ Ok x → ((then_rest f).spell x ≡ Some w) × (f.is_plain x.0 ≡ true)
rest_takes f exact w x fits e =
    let s = exact.takes w x.0 x.1 fits e in
    (rw s.spelled (ap Some (sym s.parts)), s.plain)

rest_again : {A : Type 0} (f : Field A) → IsExact f → (x : A × List ℕ) (w : List ℕ) → f.is_plain x.0 ≡ true → (then_rest f).spell x ≡ Some w → f.read w ≡ Ok x
rest_again f exact x w plain e =
    let j = join_some (f.spell x.0) (Some x.1) w e in
    let rest : x.1 ≡ j.1 = some_is _ _ j.3 in
    ap f.read (j.4 ∙ ap (λ (z : List ℕ). j.0 ++ z) (sym rest)) ∙ exact.again x.0 j.0 x.1 plain j.2

pub rest_exact : {A : Type 0} (f : Field A) → IsExact f → IsExactBody (then_rest f)
rest_exact f exact = record { takes = rest_takes f exact; again = rest_again f exact }

-- a value made of another that nothing follows
pub alone_to : {A B : Type 0} (g : A → B) (x : A) (w : List ℕ) → (alone x w >>= λ y. Ok (g y)) ≡ alone (g x) w
alone_to g x [] = refl
alone_to g x (b ∷ w) = refl

nothing_takes : (w : List ℕ) (u : Unit {0}) → IsBytes w → ended w ≡ Ok u → (nothing.spell u ≡ Some w) × (nothing.is_plain u ≡ true)
nothing_takes w u fits e = (ap Some (sym (ended_ok w u e)), refl)

nothing_again : (u : Unit {0}) (w : List ℕ) → nothing.is_plain u ≡ true → nothing.spell u ≡ Some w → ended w ≡ Ok u
nothing_again u w plain e =
    let nil : [] ≡ w = some_is _ _ e in
    ap ended (sym nil)

pub nothing_exact : IsExactBody nothing
nothing_exact = record { takes = nothing_takes; again = nothing_again }
