-- The bucket that is chosen has a free slot, and where neither is, neither has one.
use Rattle.std.proofs.Common.{◌≡◌, ℕ, ◌<◌, ◌≤◌, Bool, true, false, refl, arith, count_ones}
use Rattle.std.specs.Prelude.{nat_lt, if◌then◌else◌}
use Rattle.std.proofs.lemmas.Bool.{ltb-true, ltb-false}
use Rattle.word_bits.specs.Bits.{bits}
use Rattle.bucket_meta.proofs.fields.Filled.{most_taken, all_taken, none_left}
use Rattle.balance.specs.declared.choice.Choice.TheVariants.{Home, Probe, Neither}
use Rattle.balance.specs.Choices.{HasRoom}

-- how many records each has, where it is chosen
home_low : (h p : ℕ) (b c : Bool) → nat_lt h 14 ≡ c → (if b then Probe else if c then Home else Neither) ≡ Home → h < 14
home_low h p true c test is = absurd (let z : Probe ≡ Home = is in cc)
home_low h p false true test is = ltb-true h 14 test
home_low h p false false test is = absurd (let z : Neither ≡ Home = is in cc)

probe_fewer : (h p : ℕ) (b c : Bool) → nat_lt p h ≡ b → (if b then Probe else if c then Home else Neither) ≡ Probe → p < h
probe_fewer h p true c test is = ltb-true p h test
probe_fewer h p false true test is = absurd (let z : Home ≡ Probe = is in cc)
probe_fewer h p false false test is = absurd (let z : Neither ≡ Probe = is in cc)

both_most : (h p : ℕ) (b c : Bool) → nat_lt p h ≡ b → nat_lt h 14 ≡ c → (if b then Probe else if c then Home else Neither) ≡ Neither → (14 ≤ h) × (h ≤ p)
both_most h p true c test other is = absurd (let z : Probe ≡ Neither = is in cc)
both_most h p false true test other is = absurd (let z : Home ≡ Neither = is in cc)
both_most h p false false test other is = (ltb-false h 14 other, ltb-false p h test)

module _ (home probe : ℕ) where
  abbrev h : ℕ
  h = count_ones (bits 0 14 home)

  abbrev p : ℕ
  p = count_ones (bits 0 14 probe)

  pub has_room : HasRoom home probe
  has_room = record {
    home = λ is none. let low = home_low h p (nat_lt p h) (nat_lt h 14) refl is in let all = all_taken home none in omega (arith, low, all);
    probe = λ is none. let few = probe_fewer h p (nat_lt p h) (nat_lt h 14) refl is in let all = all_taken probe none in let most = most_taken home in omega (arith, few, all, most);
    neither = λ is.
        let most = both_most h p (nat_lt p h) (nat_lt h 14) refl refl is in
        let few_home = most_taken home in
        let few_probe = most_taken probe in
        let from = most.0 in
        let up = most.1 in
        (none_left home (omega (arith, from, few_home)), none_left probe (omega (arith, from, up, few_probe)));
  }
