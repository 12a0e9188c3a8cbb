mod Full
