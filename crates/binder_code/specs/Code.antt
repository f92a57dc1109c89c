use Rattle.std.specs.Prelude.{ℕ, ◌/◌, ◌%◌, ◌^◌}

-- the number of a code word, bits 0 to 7 (`asm-generic/ioctl.h`, `_IOC_NR`)
abbrev pub number : ℕ → ℕ
number code = code % 256

-- the letter of a code word, bits 8 to 15 (`asm-generic/ioctl.h`, `_IOC_TYPE`)
abbrev pub letter : ℕ → ℕ
letter code = code / 2 ^ 8 % 256

-- the size in bytes of the payload after a code word, bits 16 to 29 (`asm-generic/ioctl.h`, `_IOC_SIZE`)
abbrev pub size : ℕ → ℕ
size code = code / 2 ^ 16 % 2 ^ 14

-- the direction of a code word, bits 30 and 31 (`asm-generic/ioctl.h`, `_IOC_DIR`)
abbrev pub direction : ℕ → ℕ
direction code = code / 2 ^ 30
